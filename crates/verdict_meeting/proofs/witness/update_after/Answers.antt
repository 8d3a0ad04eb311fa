-- The branches of the code are those of the definition.
use Rattle.verdict_meeting.proofs.Choosing.{update_stays, update_moves}
use Rattle.verdict_meeting.proofs.witness.update_after.Goals as goal

pub returns-then-m-eq1 : goal.returns-then-m-eq1
returns-then-m-eq1 c = search update_stays

pub returns : goal.returns
returns c = search update_moves
