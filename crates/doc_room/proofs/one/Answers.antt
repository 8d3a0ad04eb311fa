-- The branches of the code are those of the definition.
use Rattle.doc_room.proofs.Branches.{one_on, one_off}
use Rattle.doc_room.proofs.one.Goals as goal

pub returns-then-b-eq1 : goal.returns-then-b-eq1
returns-then-b-eq1 c = search one_on

pub returns : goal.returns
returns c = search one_off
