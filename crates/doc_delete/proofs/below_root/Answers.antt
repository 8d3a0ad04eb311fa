-- The branches of the code are those of the definition.
use Rattle.doc_delete.proofs.Branches.{one_step, more_steps}
use Rattle.doc_delete.proofs.below_root.Goals as goal

pub returns-then-p-le1 : goal.returns-then-p-le1
returns-then-p-le1 c = search one_step

pub returns : goal.returns
returns c = search more_steps
