-- The branches of the code are those of the definition.
use mathlib.Core.Path.{sym, ◌∙◌}
use native.Mathlib.Omega.{arith}
use borrow.Author.Tests.{not-true, not-false}
use Rattle.text_xml_in.proofs.Branches.{put_none, put_one}
use mathlib.Core.Path.{ap}
use mathlib.Core.Bool.{not}
use Rattle.text_xml_in.proofs.rows.put_on.Goals as goal

pub returns-then-not-has_row : goal.returns-then-not-has_row
returns-then-not-has_row c = put_none _ _ _ _ _ _ c.has_row.ensures (not-true _ (ap not c.if-not-has_row.true))

pub put_row-requires : goal.put_row-requires
put_row-requires c = (c.requires.room (sym c.has_row.ensures ∙ not-false _ (ap not c.if-not-has_row.false)), c.requires.node, c.requires.number)

pub overflow_add-result : goal.overflow_add-result
overflow_add-result c = omega (arith, c.requires.room (sym c.has_row.ensures ∙ not-false _ (ap not c.if-not-has_row.false)))

pub returns : goal.returns
returns c = put_one _ _ _ _ _ _ c.has_row.ensures (not-false _ (ap not c.if-not-has_row.false)) c.put_row.ensures
