-- The inserted tree first, then the proposed one.
use Rattle.tables.proofs.Branches.{handed, then_on, then_off}
use Rattle.check_evidence.proofs.trees.Goals as goal

pub returns : goal.returns
returns c = then_on _ c.tree.ensures c.in_ok-tree.was c.tree-2.ensures

pub returns-in_err-tree : goal.returns-in_err-tree
returns-in_err-tree c = rw (handed c.from_residual.ensures) (then_off _ c.tree.ensures c.in_err-tree.was)
