use mathlib.Core.Path.{refl}
use borrow.Author.Rules.{rules}
use Rattle.text_names.proofs.Slots.{slot-on, slot_end}
use Rattle.text_names.proofs.names.slot.Goals as goal

pub loop-i-init : goal.loop-i-init
loop-i-init c = (search rules, search rules, refl)

pub loop-i-preserved : goal.loop-i-preserved
loop-i-preserved c = (search rules, c.mixed-h.ensures.1, slot-on _ _ _ c.loop-i.invariant.2 c.loop-i-test.true c.mixed-h.ensures.0)

pub returns : goal.returns
returns c = (slot_end _ _ _ c.loop-i.invariant.2 c.loop-i-test.false, c.loop-i.invariant.1)
