use Prim.Native.Nat.{◌-◌}
use mathlib.Core.Path.{refl}
use native.Mathlib.Omega.{arith}
use lib.ListN.{length-set}
use borrow.Author.Rules.{rules}
use Rattle.doc_delete.proofs.Branches.{strikes_most}
use Rattle.doc_delete.proofs.Hits.{strike_start, strike_more, strike_end}
use Rattle.doc_delete.proofs.striking.strike.Goals as goal

pub loop-v-init : goal.loop-v-init
loop-v-init c = (search rules, search rules, refl, refl, λ p chosen. strike_start _ _ p)

pub bounds-marks-v : goal.bounds-marks-v
bounds-marks-v c = omega (arith, c.requires.marks)

pub bounds-row-v : goal.bounds-row-v
bounds-row-v c = omega (arith, c.requires.bytes)

pub bounds-marks-v-in-loop-v : goal.bounds-marks-v-in-loop-v
bounds-marks-v-in-loop-v c = omega (arith, c.requires.marks)

pub overflow_add-n : goal.overflow_add-n
overflow_add-n c = omega (arith, strikes_most _ _ _ c.struck-hit.ensures)

pub loop-v-preserved : goal.loop-v-preserved
loop-v-preserved c = (search rules, omega (arith, strikes_most _ _ _ c.struck-hit.ensures), simp length-set c.loop-v.invariant.2, simp length-set c.loop-v.invariant.3, (λ p chosen. strike_more _ _ c.requires _ c.loop-v-test.true p chosen (c.loop-v.invariant.4 p chosen) c.byte-own.ensures c.first_word.ensures c.byte-above.ensures c.struck-hit.ensures c.marked.ensures))

pub shape_of-marks : goal.shape_of-marks
shape_of-marks c = c.loop-v.invariant.3

pub shape_of-row : goal.shape_of-row
shape_of-row c = c.loop-v.invariant.2

pub returns : goal.returns
returns c = strike_end _ _ _ c.loop-v.invariant.0 c.loop-v-test.false c.loop-v.invariant.4
