-- The branches of the code are those of the definition.
use Rattle.verdict_meeting.proofs.Branches.{least_first, least_second}
use Rattle.verdict_meeting.proofs.moves.least_of.Goals as goal

pub returns-then-is_sooner : goal.returns-then-is_sooner
returns-then-is_sooner c = search least_first

pub returns : goal.returns
returns c = search least_second
