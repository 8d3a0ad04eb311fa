-- No carry into the first word; into a later one the parent's.
use Rattle.doc_read.proofs.Branches.{carried_none, carried-parent}
use Rattle.doc_read.proofs.nodes.carried_above.Goals as goal

pub returns-then-from-eq0 : goal.returns-then-from-eq0
returns-then-from-eq0 c = carried_none _ _ _ _ c.if-from-eq0.true

pub returns : goal.returns
returns c = carried-parent _ _ _ _ c.if-from-eq0.false c.parent_at-u.ensures c.byte_at.ensures
