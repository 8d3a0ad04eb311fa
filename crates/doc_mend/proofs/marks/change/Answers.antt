-- Equal or not.
use Rattle.doc_mend.proofs.Branches.{where_equal, where_other}
use Rattle.doc_mend.proofs.marks.change.Goals as goal

pub returns-then-before-after : goal.returns-then-before-after
returns-then-before-after c = where_equal _ _ _ _ c.if-before-after.true

pub returns : goal.returns
returns c = where_other _ _ _ _ c.if-before-after.false
