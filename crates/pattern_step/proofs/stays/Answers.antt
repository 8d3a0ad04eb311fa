-- The branches of the code are those of the definition.
use Rattle.pattern_step.proofs.Branches.{stays_out, stays_end, stays-axis}
use Rattle.pattern_step.proofs.stays.Goals as goal

pub returns-then-n-i : goal.returns-then-n-i
returns-then-n-i c = search stays_out

pub returns-then-n-i-2 : goal.returns-then-n-i-2
returns-then-n-i-2 c = search stays_end

pub returns : goal.returns
returns c = search stays-axis
