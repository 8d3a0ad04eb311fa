-- The pattern first, then the room.
use Rattle.tables.proofs.Branches.{handed, then_on, then_off}
use Rattle.check_read.proofs.asked.Goals as goal

pub returns : goal.returns
returns c = then_on _ c.pattern.ensures c.in_ok-pattern.was c.output.ensures

pub returns-in_err-pattern : goal.returns-in_err-pattern
returns-in_err-pattern c = rw (handed c.from_residual.ensures) (then_off _ c.pattern.ensures c.in_err-pattern.was)
