-- The line first, then the room.
use Rattle.tables.proofs.Branches.{handed, then_on, then_off}
use Rattle.text_line_in.proofs.parse_checked.Goals as goal

pub returns : goal.returns
returns c = then_on _ c.line_checked.ensures c.in_ok-line_checked.was c.output.ensures

pub returns-in_err-line_checked : goal.returns-in_err-line_checked
returns-in_err-line_checked c = rw (handed c.from_residual.ensures) (then_off _ c.line_checked.ensures c.in_err-line_checked.was)
