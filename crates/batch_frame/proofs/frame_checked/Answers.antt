-- The frame count, the kind, then the steps and what stands behind them.
use Rattle.batch_frame.proofs.Branches.{frame_over, kind_here, frame_kind, frame_body}
use mathlib.Core.Path.{ap}
use mathlib.Core.Bool.{not}
use Rattle.batch_frame.proofs.frame_checked.Goals as goal

pub returns-then-n-ge-FRAME_LIMIT : goal.returns-then-n-ge-FRAME_LIMIT
returns-then-n-ge-FRAME_LIMIT c = search frame_over

pub returns-then-not-kind_right : goal.returns-then-not-kind_right
returns-then-not-kind_right c = search frame_kind

pub body_checked-requires : goal.body_checked-requires
body_checked-requires c = kind_here c.args.b.now c.args.n _ c.word-k.ensures c.kind_right.ensures (ap not c.if-not-kind_right.false)

pub returns : goal.returns
returns c = search frame_body
