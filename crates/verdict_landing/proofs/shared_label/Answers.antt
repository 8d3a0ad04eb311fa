-- The branches of the code are those of the definition.
use Rattle.verdict_landing.proofs.Branches.{shared_none, shared_second, shared_first}
use Rattle.verdict_landing.proofs.shared_label.Goals as goal

pub returns-then-y-eq0 : goal.returns-then-y-eq0
returns-then-y-eq0 c = search shared_none

pub returns-then-x-eq0 : goal.returns-then-x-eq0
returns-then-x-eq0 c = search shared_second

pub returns : goal.returns
returns c = search shared_first
