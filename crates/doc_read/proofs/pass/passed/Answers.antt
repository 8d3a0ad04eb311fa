use Prim.Native.Nat.{◌-◌}
use mathlib.Core.Path.{refl}
use native.Mathlib.Nat.{le_trans}
use native.Mathlib.Omega.{arith}
use borrow.Author.Rules.{rules}
use Rattle.selection.proofs.Filling.{row_start, row_long, row_within}
use Rattle.doc_read.proofs.Passing.{held_none, placed, sets_room, turn, turned}
use Rattle.doc_read.proofs.pass.passed.Goals as goal

pub loop-v-init : goal.loop-v-init
loop-v-init c = (search rules, held_none _ _ _ _, refl, (λ h. absurd (omega arith)), row_start _ _)

pub label_at-requires : goal.label_at-requires
label_at-requires c = omega (arith, c.loop-v-test.true, c.requires.carrying.readable.words)

pub set_of-own-requires : goal.set_of-own-requires
set_of-own-requires c = placed _ _ _ _ _ _ c.requires c.loop-v.invariant.2 _ c.loop-v-test.true c.loop-v.invariant.3

pub bounds-sets-v : goal.bounds-sets-v
bounds-sets-v c = sets_room _ _ _ _ _ _ c.requires c.loop-v.sets c.loop-v.invariant.2 _ c.loop-v-test.true

pub byte_at-requires : goal.byte_at-requires
byte_at-requires c = omega (arith, c.loop-v-test.true, c.requires.carrying.readable.marked)

pub bounds-row-v : goal.bounds-row-v
bounds-row-v c = row_within _ _ _ c.loop-v.invariant.4 _ c.loop-v-test.true c.requires.carrying.readable.long

pub bounds-row-v-in-loop-v : goal.bounds-row-v-in-loop-v
bounds-row-v-in-loop-v c = row_within _ _ _ c.loop-v.invariant.4 _ c.loop-v-test.true c.requires.carrying.readable.long

pub loop-v-preserved : goal.loop-v-preserved
loop-v-preserved c = turn _ _ _ _ _ _ c.requires _ c.loop-v.invariant.4 c.staying-staying.ensures c.wanted_word-word.ensures c.loop-v-test.true c.loop-v.invariant.1 c.loop-v.invariant.2 c.label_at.ensures c.agreeing-agreeing.ensures c.set_of-own.ensures c.byte_at.ensures c.shown.ensures

pub shape_of-row : goal.shape_of-row
shape_of-row c = row_long _ _ _ c.loop-v.invariant.4 (le_trans c.loop-v.invariant.0 c.requires.carrying.readable.long)

pub returns : goal.returns
returns c = turned _ _ _ _ _ _ c.requires _ c.loop-v.invariant.4 c.loop-v.invariant.0 c.loop-v-test.false c.loop-v.invariant.1
