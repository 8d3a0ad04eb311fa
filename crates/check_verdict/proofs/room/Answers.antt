-- The branches of the code are those of the definition.
use Rattle.check_verdict.proofs.Accepting.{room_short, room_long}
use Rattle.check_verdict.proofs.room.Goals as goal

pub returns-then-words-m : goal.returns-then-words-m
returns-then-words-m c = search room_short

pub returns : goal.returns
returns c = search room_long
