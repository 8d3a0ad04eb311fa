-- A frame, or its refusal, is given as it was read.
use Rattle.batch_walk.proofs.Branches.{framed_refused, framed_found}
use Rattle.tables.proofs.Branches.{handed}
use Rattle.batch_walk.proofs.framed.Goals as goal

pub returns-in_err-f : goal.returns-in_err-f
returns-in_err-f c = rw (handed c.from_residual.ensures) (framed_refused _ _ _ c.read_frame.ensures c.in_err-f.was)

pub returns : goal.returns
returns c = framed_found _ _ _ c.read_frame.ensures c.in_ok-f.was
