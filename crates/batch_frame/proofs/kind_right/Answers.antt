-- The branches of the code are those of the definition.
use Rattle.batch_frame.proofs.Branches.{kind_one, kind_two, kind_three}
use Rattle.batch_frame.proofs.kind_right.Goals as goal

pub returns-then-k-eq1 : goal.returns-then-k-eq1
returns-then-k-eq1 c = search kind_one

pub returns-then-k-eq2 : goal.returns-then-k-eq2
returns-then-k-eq2 c = search kind_two

pub returns : goal.returns
returns c = search kind_three
