-- The branches of the code are those of the definition.
use Rattle.outcomes.proofs.Found.{found_none, found_some}
use Rattle.outcomes.proofs.numbers.found.Goals as goal

pub returns-then-n-eq0 : goal.returns-then-n-eq0
returns-then-n-eq0 c = search found_none

pub returns : goal.returns
returns c = search found_some
