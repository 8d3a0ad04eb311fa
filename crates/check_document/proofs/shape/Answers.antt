-- The used count first, then the nodes.
use mathlib.Core.Path.{sym, ◌∙◌}
use native.Mathlib.Omega.{arith}
use Rattle.tables.specs.Checks.{shape_check, used_check}
use Rattle.tables.proofs.Tests.{first_passed, first_failed}
use Rattle.check_document.proofs.Branches.{used_held}
use mathlib.Core.Path.{ap}
use mathlib.Core.Bool.{not}
use Rattle.check_document.proofs.shape.Goals as goal

pub returns-then-not-used_right : goal.returns-then-not-used_right
unfolding shape_check used_check
returns-then-not-used_right c = c.refused.ensures ∙ sym (first_failed _ c.used_right.ensures _ (ap not c.if-not-used_right.true))

pub used_nodes-requires : goal.used_nodes-requires
used_nodes-requires c = omega (arith, used_held _ _ _ c.used_right.ensures (ap not c.if-not-used_right.false))

pub returns : goal.returns
unfolding shape_check used_check
returns c = c.used_nodes.ensures ∙ sym (first_passed _ c.used_right.ensures _ (ap not c.if-not-used_right.false))
