-- The branches of the code are those of the definition.
use Rattle.verdict_meeting.proofs.Choosing.{alone_first, alone_later, not_first}
use Rattle.verdict_meeting.proofs.numbers.lands_alone.Goals as goal

pub returns-then-i-eq0 : goal.returns-then-i-eq0
returns-then-i-eq0 c = search alone_first

pub one_more-requires : goal.one_more-requires
one_more-requires c = c.requires (not_first c.if-i-eq0.false)

pub returns : goal.returns
returns c = search alone_later
