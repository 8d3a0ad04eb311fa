-- The branches of the code are those of the definition.
use Rattle.text_pattern_out.proofs.Rooms.{two_slashes, one_slash}
use Rattle.text_pattern_out.proofs.room.slash_count.Goals as goal

pub returns-then-a-eq2 : goal.returns-then-a-eq2
returns-then-a-eq2 c = two_slashes c.if-a-eq2.true

pub returns : goal.returns
returns c = one_slash c.if-a-eq2.false
