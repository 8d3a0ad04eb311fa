-- The branches of the code are those of the definition.
use Rattle.verdict_meeting.proofs.Choosing.{first_least, first_move, second_least, second_move, third_least, third_move}
use Rattle.verdict_meeting.proofs.numbers.chosen.Goals as goal

pub returns-then-is_sooner : goal.returns-then-is_sooner
returns-then-is_sooner c = (search first_least, search first_move)

pub returns-then-is_sooner-2 : goal.returns-then-is_sooner-2
returns-then-is_sooner-2 c = (search second_least, search second_move)

pub returns : goal.returns
returns c = (search third_least, search third_move)
