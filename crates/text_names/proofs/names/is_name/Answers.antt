use mathlib.Core.Path.{sym, ◌∙◌}
use borrow.Author.Tests.{not-true, not-false}
use Rattle.text_names.proofs.Naming.{name_none, name_start, go_on, go_off, go_end}
use mathlib.Core.Path.{ap}
use mathlib.Core.Bool.{not}
use Rattle.text_names.proofs.names.is_name.Goals as goal

pub returns-then-not-starts_at : goal.returns-then-not-starts_at
returns-then-not-starts_at c = name_none _ (sym c.starts_at.ensures ∙ not-true _ (ap not c.if-not-starts_at.true))

pub loop-i-init : goal.loop-i-init
loop-i-init c = name_start _ (sym c.starts_at.ensures ∙ not-false _ (ap not c.if-not-starts_at.false))

pub returns-then-not-goes_at : goal.returns-then-not-goes_at
returns-then-not-goes_at c = go_off _ _ c.loop-i.invariant c.loop-i-test.true c.goes_at.ensures (not-true _ (ap not c.if-not-goes_at.true))

pub loop-i-preserved : goal.loop-i-preserved
loop-i-preserved c = go_on _ _ c.loop-i.invariant c.loop-i-test.true c.goes_at.ensures (not-false _ (ap not c.if-not-goes_at.false))

pub returns : goal.returns
returns c = go_end _ _ c.loop-i.invariant c.loop-i-test.false
