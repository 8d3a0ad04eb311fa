use Prim.Native.Nat.{◌-◌}
use native.Mathlib.Omega.{arith}
use borrow.Author.Rules.{rules}
use Rattle.doc_room.proofs.Branches.{ticked_most}
use Rattle.doc_updates.proofs.Counting.{count_start, count_end}
use Rattle.doc_room.proofs.Counting.{chosen_on}
use Rattle.doc_room.proofs.counted.Goals as goal

pub loop-v-init : goal.loop-v-init
loop-v-init c = (search rules, search rules, count_start _)

pub overflow_add-n : goal.overflow_add-n
overflow_add-n c = omega (arith, ticked_most _ c.one-n.ensures)

pub loop-v-preserved : goal.loop-v-preserved
loop-v-preserved c = (search rules, omega (arith, ticked_most _ c.one-n.ensures), chosen_on _ _ c.loop-v.invariant.2 c.byte.ensures c.one-n.ensures)

pub returns : goal.returns
returns c = count_end _ _ c.loop-v.invariant.2 _ c.loop-v.invariant.0 c.loop-v-test.false
