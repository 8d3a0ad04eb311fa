-- The marks that a delete leaves on the tree.
use mathlib.Core.Path.{refl}
use Rattle.verdict_evidence.proofs.Unmarked.{blank_of, row_cut}
use Rattle.verdict_evidence.proofs.rows.removed_row.Goals as goal

pub returns : goal.returns
returns c = row_cut _ (blank_of _ _ refl) c.requires.2 _ c.requires.0 c.requires.1 c.deleting.ensures
