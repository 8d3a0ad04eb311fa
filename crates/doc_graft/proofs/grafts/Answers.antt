use Prim.Native.Nat.{◌-◌}
use borrow.Author.Rules.{rules}
use Rattle.doc_graft.proofs.Turns.{all_start, all_more, rows_long, marks_long, all_end}
use Rattle.doc_graft.proofs.grafts.Goals as goal

pub loop-v-init : goal.loop-v-init
loop-v-init c = (search rules, all_start _ _ _)

pub loop-v-preserved : goal.loop-v-preserved
loop-v-preserved c = (search rules, all_more _ _ _ _ c.loop-v.invariant.1 c.byte.ensures c.turn-at.ensures)

pub shape_of-rows : goal.shape_of-rows
shape_of-rows c = rows_long _ _ _ _ c.loop-v.invariant.1

pub shape_of-marks : goal.shape_of-marks
shape_of-marks c = marks_long _ _ _ _ c.loop-v.invariant.1

pub returns : goal.returns
returns c = all_end _ _ _ _ c.loop-v.invariant.1 _ c.loop-v.invariant.0 c.loop-v-test.false
