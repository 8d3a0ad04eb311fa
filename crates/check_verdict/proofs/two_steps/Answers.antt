-- The branches of the code are those of the definition.
use Rattle.check_verdict.proofs.Accepting.{step_one, steps_two}
use Rattle.check_verdict.proofs.two_steps.Goals as goal

pub returns-then-p-le1 : goal.returns-then-p-le1
returns-then-p-le1 c = search step_one

pub returns : goal.returns
returns c = search steps_two
