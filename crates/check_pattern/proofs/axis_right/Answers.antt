-- The branches of the code are those of the definition.
use Rattle.check_pattern.proofs.Branches.{axis_first, axis_child, axis_later}
use Rattle.check_pattern.proofs.axis_right.Goals as goal

pub returns-then-i-eq0 : goal.returns-then-i-eq0
returns-then-i-eq0 c = search axis_first

pub returns-then-a-eq1 : goal.returns-then-a-eq1
returns-then-a-eq1 c = search axis_child

pub returns : goal.returns
returns c = search axis_later
