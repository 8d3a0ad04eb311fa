-- The tree first, then the pattern and the row.
use Rattle.tables.proofs.Branches.{handed, then_on, then_off}
use Rattle.check_plain.specs.Bare.{plain_check}
use Rattle.check_plain.proofs.checked.Goals as goal

pub returns : goal.returns
unfolding plain_check
returns c = then_on _ c.tree.ensures c.in_ok-tree.was c.pattern_and_row.ensures

pub returns-in_err-tree : goal.returns-in_err-tree
unfolding plain_check
returns-in_err-tree c = rw (handed c.from_residual.ensures) (then_off _ c.tree.ensures c.in_err-tree.was)
