-- The tables first, then the room.
use Rattle.tables.proofs.Branches.{handed, then_on, then_off}
use Rattle.check_verdict.specs.Order.{insert_verdict_check}
use Rattle.check_verdict.proofs.insert_check.Goals as goal

pub returns : goal.returns
unfolding insert_verdict_check
returns c = then_on _ c.deep_insert_check.ensures c.in_ok-deep_insert_check.was c.room.ensures

pub returns-in_err-deep_insert_check : goal.returns-in_err-deep_insert_check
unfolding insert_verdict_check
returns-in_err-deep_insert_check c = rw (handed c.from_residual.ensures) (then_off _ c.deep_insert_check.ensures c.in_err-deep_insert_check.was)
