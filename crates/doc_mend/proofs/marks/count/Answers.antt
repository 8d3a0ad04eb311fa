use Prim.Native.Nat.{◌-◌}
use native.Mathlib.Omega.{arith}
use Rattle.tables.proofs.Soundness.{shape_facts}
use Rattle.doc_mend.proofs.Passing.{count_start, count_more, count_end, count_few, row_kept, reachable}
use borrow.Author.Rules.{rules}
use Rattle.doc_mend.proofs.marks.count.Goals as goal

pub loop-v-init : goal.loop-v-init
loop-v-init c = (count_start _ c.requires.0 _, search rules)

pub counted-n-requires : goal.counted-n-requires
counted-n-requires c = reachable _ c.requires.0 _ c.requires.1 c.loop-v-test.true c.loop-v.invariant.0.written

pub overflow_add-n : goal.overflow_add-n
overflow_add-n c = record { fits = omega (arith, count_few _ c.requires.0 (count_more _ c.requires.0 c.requires.1 c.loop-v-test.true c.loop-v.invariant.0 c.counted-n.ensures), shape_facts _ c.requires.0) }

pub loop-v-preserved : goal.loop-v-preserved
loop-v-preserved c = (count_more _ c.requires.0 c.requires.1 c.loop-v-test.true c.loop-v.invariant.0 c.counted-n.ensures, search rules)

pub shape_of-row : goal.shape_of-row
shape_of-row c = row_kept _ c.requires.0 _ c.requires.1 c.loop-v.invariant.1 c.loop-v.invariant.0.written

pub returns : goal.returns
returns c = count_end _ c.requires.0 c.loop-v.invariant.1 c.loop-v-test.false c.loop-v.invariant.0
