-- The steps first, then what stands behind them.
use Rattle.tables.proofs.Branches.{handed, then_on, then_off}
use Rattle.batch_frame.proofs.body_checked.Goals as goal

pub returns : goal.returns
returns c = then_on _ c.steps_checked.ensures c.in_ok-steps_checked.was c.rest_checked.ensures

pub returns-in_err-steps_checked : goal.returns-in_err-steps_checked
returns-in_err-steps_checked c = rw (handed c.from_residual.ensures) (then_off _ c.steps_checked.ensures c.in_err-steps_checked.was)
