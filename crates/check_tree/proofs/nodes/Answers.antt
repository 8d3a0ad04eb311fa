use Prim.Native.Nat.{◌-◌}
use mathlib.Core.Path.{◌∙◌}
use borrow.Author.Rules.{rules}
use Rattle.tables.specs.Checks.{node_check}
use Rattle.tables.proofs.Each.{each_start, each_on, each_off, each_end}
use Rattle.tables.proofs.Tests.{passed, failed, first_passed, first_failed}
use mathlib.Core.Path.{ap}
use mathlib.Core.Bool.{not}
use Rattle.check_tree.proofs.nodes.Goals as goal

pub loop-v-init : goal.loop-v-init
loop-v-init c = (search rules, search each_start)

pub returns-then-not-parent_right : goal.returns-then-not-parent_right
unfolding node_check
returns-then-not-parent_right c = each_off _ _ _ c.loop-v.invariant.1 c.loop-v-test.true (first_failed _ c.parent_right.ensures _ (ap not c.if-not-parent_right.true)) c.refused.ensures

pub returns-then-not-named : goal.returns-then-not-named
unfolding node_check
returns-then-not-named c = each_off _ _ _ c.loop-v.invariant.1 c.loop-v-test.true (first_passed _ c.parent_right.ensures _ (ap not c.if-not-parent_right.false) ∙ failed _ c.named.ensures (ap not c.if-not-named.true)) c.refused-then-not-named.ensures

pub loop-v-preserved : goal.loop-v-preserved
unfolding node_check
loop-v-preserved c = (search rules, each_on _ _ _ c.loop-v.invariant.1 c.loop-v-test.true (first_passed _ c.parent_right.ensures _ (ap not c.if-not-parent_right.false) ∙ passed _ c.named.ensures (ap not c.if-not-named.false)))

pub returns : goal.returns
returns c = each_end _ _ _ c.loop-v.invariant.1 c.loop-v-test.false
