-- The branches of the code are those of the definition.
use Rattle.text_pattern_in.proofs.Branches.{axis_descendant, axis_first, axis_child}
use Rattle.text_pattern_in.proofs.steps.axis_at.Goals as goal

pub returns-then-byte-eq47 : goal.returns-then-byte-eq47
returns-then-byte-eq47 c = axis_descendant _ _ c.byte.ensures _ c.if-byte-eq47.true

pub returns-then-k-eq0 : goal.returns-then-k-eq0
returns-then-k-eq0 c = axis_first _ _ c.byte.ensures _ c.if-byte-eq47.false c.if-k-eq0.true

pub returns : goal.returns
returns c = axis_child _ _ c.byte.ensures _ c.if-byte-eq47.false c.if-k-eq0.false
