-- The byte is 1 where the row has the node.
use Rattle.verdict_entering.proofs.Climbing.{holds_is}
use Rattle.verdict_entering.proofs.rows.holds.Goals as goal

pub returns : goal.returns
returns c = search holds_is
