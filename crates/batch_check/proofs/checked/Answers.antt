-- The batch first, then the output.
use Rattle.tables.proofs.Branches.{handed}
use Rattle.batch_check.proofs.Left.{batch_refused, output_fine, output_refused}
use Rattle.batch_check.proofs.checked.Goals as goal

pub returns-in_err-n : goal.returns-in_err-n
returns-in_err-n c = rw (handed c.from_residual.ensures) (batch_refused _ _ c.limited.ensures c.in_err-n.was)

pub returns-in_err-output : goal.returns-in_err-output
returns-in_err-output c = rw (handed c.from_residual-in_err-output.ensures) (output_refused _ _ c.limited.ensures c.in_ok-n.was c.output.ensures c.in_err-output.was)

pub returns : goal.returns
returns c = output_fine _ _ c.limited.ensures c.in_ok-n.was c.output.ensures c.in_ok-output.was
