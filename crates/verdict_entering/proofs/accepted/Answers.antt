-- The read first, then the tree.
use Rattle.tables.proofs.Branches.{handed, then_on, then_off}
use Rattle.verdict_entering.specs.Entering.{entering_check}
use Rattle.verdict_entering.proofs.accepted.Goals as goal

pub returns : goal.returns
unfolding entering_check
returns c = then_on _ c.pattern.ensures c.in_ok-pattern.was c.tree.ensures

pub returns-in_err-pattern : goal.returns-in_err-pattern
unfolding entering_check
returns-in_err-pattern c = rw (handed c.from_residual.ensures) (then_off _ c.pattern.ensures c.in_err-pattern.was)
