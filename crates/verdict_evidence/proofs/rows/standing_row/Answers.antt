-- The row of a reading of the tree at the wanted steps.
use mathlib.Core.Path.{refl}
use Rattle.verdict_evidence.proofs.Unmarked.{blank_of, row_standing}
use Rattle.verdict_evidence.proofs.rows.standing_row.Goals as goal

pub returns : goal.returns
returns c = row_standing _ (blank_of _ _ refl) c.requires.1 _ _ c.requires.0 (blank_of _ _ refl) c.reading_at.ensures
