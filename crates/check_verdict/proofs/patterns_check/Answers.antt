-- The read first, then the update.
use Rattle.tables.proofs.Branches.{handed, then_on, then_off}
use Rattle.check_verdict.specs.Order.{patterns_check}
use Rattle.check_verdict.proofs.patterns_check.Goals as goal

pub returns : goal.returns
unfolding patterns_check
returns c = then_on _ c.pattern.ensures c.in_ok-pattern.was c.pattern-2.ensures

pub returns-in_err-pattern : goal.returns-in_err-pattern
unfolding patterns_check
returns-in_err-pattern c = rw (handed c.from_residual.ensures) (then_off _ c.pattern.ensures c.in_err-pattern.was)
