-- The branches of the code are those of the definition.
use Rattle.tables.proofs.Branches.{handed}
use Rattle.batch_whole.proofs.Branches.{behind-over, behind_why, behind_fine, behind-left}
use Rattle.batch_whole.proofs.frame_checked.Goals as goal

pub returns-then-b-gt-BATCH_LIMIT : goal.returns-then-b-gt-BATCH_LIMIT
returns-then-b-gt-BATCH_LIMIT c = behind-over c.args.b.now c.args.n c.args.at c.if-b-gt-BATCH_LIMIT.true c.refused.ensures

pub returns-in_err-f : goal.returns-in_err-f
returns-in_err-f c = rw (handed c.from_residual.ensures) (behind_why _ _ _ c.if-b-gt-BATCH_LIMIT.false c.read_frame.ensures c.in_err-f.was)

pub returns-then-f-b : goal.returns-then-f-b
returns-then-f-b c = behind_fine _ _ _ c.if-b-gt-BATCH_LIMIT.false c.read_frame.ensures c.in_ok-f.was c.if-f-b.true

pub returns : goal.returns
returns c = behind-left _ _ _ c.if-b-gt-BATCH_LIMIT.false c.read_frame.ensures c.in_ok-f.was c.if-f-b.false c.refused-2.ensures
