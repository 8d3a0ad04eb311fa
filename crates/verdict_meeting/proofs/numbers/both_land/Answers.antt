-- The branches of the code are those of the definition.
use Rattle.verdict_meeting.proofs.Choosing.{together_first, together_update, together_read, together_later, not_first}
use Rattle.verdict_meeting.proofs.numbers.both_land.Goals as goal

pub returns-then-j-eq0 : goal.returns-then-j-eq0
returns-then-j-eq0 c = search together_first

pub returns-then-i-eq0 : goal.returns-then-i-eq0
returns-then-i-eq0 c = search together_update

pub returns-then-j-eq0-2 : goal.returns-then-j-eq0-2
returns-then-j-eq0-2 c = search together_read

pub one_more-requires : goal.one_more-requires
one_more-requires c = c.requires (not_first c.if-i-eq0.false) (not_first c.if-j-eq0-2.false)

pub returns : goal.returns
returns c = search together_later
