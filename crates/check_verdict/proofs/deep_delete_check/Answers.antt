-- The patterns first, then the number of steps.
use Rattle.tables.proofs.Branches.{handed, then_on, then_off}
use Rattle.check_verdict.specs.Order.{deep_delete_check}
use Rattle.check_verdict.proofs.deep_delete_check.Goals as goal

pub returns : goal.returns
unfolding deep_delete_check
returns c = then_on _ c.patterns_check.ensures c.in_ok-patterns_check.was c.two_steps.ensures

pub returns-in_err-patterns_check : goal.returns-in_err-patterns_check
unfolding deep_delete_check
returns-in_err-patterns_check c = rw (handed c.from_residual.ensures) (then_off _ c.patterns_check.ensures c.in_err-patterns_check.was)
