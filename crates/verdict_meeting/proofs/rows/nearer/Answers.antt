-- The branches of the code are those of the definition.
use Rattle.verdict_meeting.proofs.Choosing.{kept_best, new_best}
use Rattle.verdict_meeting.proofs.rows.nearer.Goals as goal

pub returns-then-is_sooner : goal.returns-then-is_sooner
returns-then-is_sooner c = (search kept_best, search kept_best)

pub returns : goal.returns
returns c = (search new_best, search new_best)
