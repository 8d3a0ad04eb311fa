-- The branches of the code are those of the definition.
use Rattle.verdict_landing.proofs.Branches.{label_both, label_read, label_update}
use Rattle.verdict_landing.proofs.landing_at.Goals as goal

pub returns-then-m-eq0 : goal.returns-then-m-eq0
returns-then-m-eq0 c = search label_both

pub returns-then-m-eq1 : goal.returns-then-m-eq1
returns-then-m-eq1 c = search label_read

pub returns : goal.returns
returns c = search label_update
