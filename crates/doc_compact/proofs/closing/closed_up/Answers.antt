-- All used nodes are closed up; those that do not stay were dropped.
use Rattle.doc_compact.proofs.Promises.{closed_most, closed_answer}
use Rattle.doc_compact.proofs.closing.closed_up.Goals as goal

pub overflow_sub-result : goal.overflow_sub-result
overflow_sub-result c = search closed_most

pub returns : goal.returns
returns c = search closed_answer
