-- The size first, then the axes.
use Rattle.tables.specs.Checks.{pattern_check}
use Rattle.tables.proofs.Branches.{handed, then_on, then_off}
use Rattle.check_pattern.proofs.pattern.Goals as goal

pub returns : goal.returns
unfolding pattern_check
returns c = then_on _ c.sized.ensures c.in_ok-sized.was c.axes.ensures

pub returns-in_err-sized : goal.returns-in_err-sized
unfolding pattern_check
returns-in_err-sized c = rw (handed c.from_residual.ensures) (then_off _ c.sized.ensures c.in_err-sized.was)
