-- The parent before the label, and all behind them as it was.
use Rattle.verdict_meeting.proofs.Tracing.{put_inside, put_node}
use Rattle.verdict_meeting.proofs.witness.put.Goals as goal

pub bounds-out-k-2 : goal.bounds-out-k-2
bounds-out-k-2 c = search put_inside

pub returns : goal.returns
returns c = search put_node
