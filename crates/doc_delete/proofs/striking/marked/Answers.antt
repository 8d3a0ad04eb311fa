-- The branches of the code are those of the definition.
use Rattle.doc_delete.proofs.Branches.{marked_struck, marked_other}
use Rattle.doc_delete.proofs.striking.marked.Goals as goal

pub returns-then-hit-eq1 : goal.returns-then-hit-eq1
returns-then-hit-eq1 c = search marked_struck

pub returns : goal.returns
returns c = search marked_other
