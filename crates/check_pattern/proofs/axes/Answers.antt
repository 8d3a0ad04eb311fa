use Prim.Native.Nat.{◌-◌}
use borrow.Author.Rules.{rules}
use Rattle.tables.specs.Checks.{axis_check}
use Rattle.tables.proofs.Each.{each_start, each_on, each_off, each_end}
use Rattle.tables.proofs.Tests.{passed, failed}
use mathlib.Core.Path.{ap}
use mathlib.Core.Bool.{not}
use Rattle.check_pattern.proofs.axes.Goals as goal

pub loop-i-init : goal.loop-i-init
loop-i-init c = (search rules, search each_start)

pub returns-then-not-axis_right : goal.returns-then-not-axis_right
unfolding axis_check
returns-then-not-axis_right c = each_off _ _ _ c.loop-i.invariant.1 c.loop-i-test.true (failed _ c.axis_right.ensures (ap not c.if-not-axis_right.true)) c.refused.ensures

pub loop-i-preserved : goal.loop-i-preserved
unfolding axis_check
loop-i-preserved c = (search rules, each_on _ _ _ c.loop-i.invariant.1 c.loop-i-test.true (passed _ c.axis_right.ensures (ap not c.if-not-axis_right.false)))

pub returns : goal.returns
returns c = each_end _ _ _ c.loop-i.invariant.1 c.loop-i-test.false
