use Prim.Native.Nat.{◌-◌}
use borrow.Author.Rules.{rules}
use Rattle.pattern_masks.proofs.Slots.{slots_start, slots_more, slots_end}
use Rattle.pattern_masks.proofs.noted.Goals as goal

pub loop-i-init : goal.loop-i-init
loop-i-init c = (search rules, slots_start _ _ _ _)

pub loop-i-preserved : goal.loop-i-preserved
loop-i-preserved c = (search rules, slots_more _ _ _ _ c.loop-i.invariant.1 c.second_word.ensures (search rules) c.note_step.ensures)

pub shape_of-table : goal.shape_of-table
shape_of-table c = c.loop-i.invariant.1.long

pub returns : goal.returns
returns c = slots_end _ _ _ _ c.loop-i.invariant.1 c.loop-i.invariant.0 c.loop-i-test.false c.held-m.ensures
