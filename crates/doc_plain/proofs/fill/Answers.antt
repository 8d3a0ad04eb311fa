use Prim.Native.Nat.{◌-◌}
use borrow.Author.Rules.{rules}
use native.Mathlib.Omega.{arith}
use Rattle.selection.proofs.Filling.{row_start, row_more, row_within, row_long, row_end}
use Rattle.doc_plain.proofs.Landing.{landed-bit}
use Rattle.doc_plain.proofs.fill.Goals as goal

pub loop-v-init : goal.loop-v-init
loop-v-init c = (search rules, search row_start)

pub lands-requires : goal.lands-requires
lands-requires c = record { step = omega (arith, c.requires.some); node = search rules; falls = c.requires.falls }

pub bounds-row-v : goal.bounds-row-v
bounds-row-v c = row_within _ _ _ c.loop-v.invariant.1 _ c.loop-v-test.true c.requires.room

pub loop-v-preserved : goal.loop-v-preserved
loop-v-preserved c = (search rules, row_more _ _ _ c.loop-v.invariant.1 (omega (arith, c.requires.room)) (landed-bit _ _ _ c.lands.ensures c.bit.ensures))

pub shape_of-row : goal.shape_of-row
shape_of-row c = row_long _ _ _ c.loop-v.invariant.1 (omega (arith, c.requires.room))

pub returns : goal.returns
returns c = row_end _ _ _ c.loop-v.invariant.1 _ (search rules) c.loop-v-test.false
