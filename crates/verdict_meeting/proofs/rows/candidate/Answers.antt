-- The number of a marked state.
use Rattle.verdict_meeting.proofs.Nearest.{candidate_some, candidate_none}
use Rattle.verdict_meeting.proofs.rows.candidate.Goals as goal

pub returns-then-byte-eq1 : goal.returns-then-byte-eq1
returns-then-byte-eq1 c = search candidate_some

pub returns : goal.returns
returns c = search candidate_none
