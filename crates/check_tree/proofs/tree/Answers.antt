-- The size first, then the nodes.
use Rattle.tables.specs.Checks.{tree_check}
use Rattle.tables.proofs.Branches.{handed, then_on, then_off}
use Rattle.check_tree.proofs.tree.Goals as goal

pub returns : goal.returns
unfolding tree_check
returns c = then_on _ c.sized.ensures c.in_ok-sized.was c.nodes.ensures

pub returns-in_err-sized : goal.returns-in_err-sized
unfolding tree_check
returns-in_err-sized c = rw (handed c.from_residual.ensures) (then_off _ c.sized.ensures c.in_err-sized.was)
