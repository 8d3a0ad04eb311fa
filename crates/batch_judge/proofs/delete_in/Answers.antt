-- Each mode has its own verdict.
use Rattle.batch_judge.proofs.delete_in.Goals as goal

pub returns-in-Node : goal.returns-in-Node
returns-in-Node c = rw c.in-Node.is c.delete_conflicts.ensures

pub returns-in-Deep : goal.returns-in-Deep
returns-in-Deep c = rw c.in-Deep.is c.delete_deeply.ensures
