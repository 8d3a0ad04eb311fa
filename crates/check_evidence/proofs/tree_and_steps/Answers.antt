-- The tree first, then the number of steps.
use Rattle.tables.proofs.Branches.{handed, then_on, then_off}
use Rattle.check_evidence.proofs.tree_and_steps.Goals as goal

pub returns : goal.returns
returns c = then_on _ c.tree.ensures c.in_ok-tree.was c.two_steps.ensures

pub returns-in_err-tree : goal.returns-in_err-tree
returns-in_err-tree c = rw (handed c.from_residual.ensures) (then_off _ c.tree.ensures c.in_err-tree.was)
