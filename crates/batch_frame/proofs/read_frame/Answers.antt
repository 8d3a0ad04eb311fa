-- The checks first, then the frame.
use mathlib.Core.Path.{sym, ◌∙◌}
use Rattle.batch_frame.proofs.Branches.{frame_here, framed_found, framed_refused}
use Rattle.tables.proofs.Branches.{handed}
use Rattle.batch_frame.proofs.read_frame.Goals as goal

pub frame_of-requires : goal.frame_of-requires
frame_of-requires c = frame_here _ _ _ (sym c.frame_checked.ensures ∙ c.in_ok-frame_checked.was)

pub returns : goal.returns
returns c = framed_found _ _ _ c.frame_checked.ensures c.in_ok-frame_checked.was c.frame_of.ensures

pub returns-in_err-frame_checked : goal.returns-in_err-frame_checked
returns-in_err-frame_checked c = rw (handed c.from_residual.ensures) (framed_refused _ _ _ c.frame_checked.ensures c.in_err-frame_checked.was)
