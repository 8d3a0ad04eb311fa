-- The tables first, then the room.
use Rattle.tables.proofs.Branches.{handed, then_on, then_off}
use Rattle.check_verdict.specs.Order.{delete_verdict_check}
use Rattle.check_verdict.proofs.delete_check.Goals as goal

pub returns : goal.returns
unfolding delete_verdict_check
returns c = then_on _ c.deep_delete_check.ensures c.in_ok-deep_delete_check.was c.room.ensures

pub returns-in_err-deep_delete_check : goal.returns-in_err-deep_delete_check
unfolding delete_verdict_check
returns-in_err-deep_delete_check c = rw (handed c.from_residual.ensures) (then_off _ c.deep_delete_check.ensures c.in_err-deep_delete_check.was)
