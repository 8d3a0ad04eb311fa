-- The update is an insert where its kind is 2, else it is judged as a delete.
use Rattle.batch_judge.proofs.Parts.{insert_tells, delete_tells}
use Rattle.batch_judge.proofs.conflicts.Goals as goal

pub returns-then-word-eq2 : goal.returns-then-word-eq2
returns-then-word-eq2 c = insert_tells _ _ _ c.steps-r.ensures c.steps-p.ensures c.word.ensures c.nodes.ensures c.if-word-eq2.true c.insert_in.ensures

pub returns : goal.returns
returns c = delete_tells _ _ _ c.steps-r.ensures c.steps-p.ensures c.word.ensures c.if-word-eq2.false c.delete_in.ensures
