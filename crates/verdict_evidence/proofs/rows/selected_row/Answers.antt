-- The row of a read of the tree.
use mathlib.Core.Path.{refl}
use Rattle.verdict_evidence.proofs.Unmarked.{blank_of, row_chosen}
use Rattle.verdict_evidence.proofs.rows.selected_row.Goals as goal

pub returns : goal.returns
returns c = row_chosen _ (blank_of _ _ refl) c.requires.1 _ _ c.requires.0 (blank_of _ _ refl) c.reading.ensures
