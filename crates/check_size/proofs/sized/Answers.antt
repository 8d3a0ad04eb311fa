-- The branches of the code are those of the definition.
use Rattle.check_size.proofs.Branches.{size_none, size_odd, size-over, size_fine}
use Rattle.check_size.proofs.sized.Goals as goal

pub returns-then-n-eq0 : goal.returns-then-n-eq0
returns-then-n-eq0 c = search size_none

pub returns-then-n-ne0 : goal.returns-then-n-ne0
returns-then-n-ne0 c = search size_odd

pub returns-then-limit-n : goal.returns-then-limit-n
returns-then-limit-n c = search size-over

pub returns : goal.returns
returns c = search size_fine
