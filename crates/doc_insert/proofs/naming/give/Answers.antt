use Prim.Native.Nat.{◌-◌}
use mathlib.Core.Path.{refl}
use native.Mathlib.Nat.{le_trans, lt_of_lt_of_le}
use borrow.Author.Rules.{rules}
use Rattle.selection.proofs.Filling.{row_start, row_more, row_long, row_within, row_end}
use Rattle.doc_insert.proofs.naming.give.Goals as goal

pub loop-k-init : goal.loop-k-init
loop-k-init c = (search rules, row_start _ _)

pub bounds-free-k : goal.bounds-free-k
bounds-free-k c = row_within _ _ _ c.loop-k.invariant.1 _ c.loop-k-test.true c.requires.0

pub loop-k-preserved : goal.loop-k-preserved
loop-k-preserved c = (search rules, row_more _ _ _ c.loop-k.invariant.1 (lt_of_lt_of_le c.loop-k-test.true c.requires.0) refl)

pub shape_of-free : goal.shape_of-free
shape_of-free c = row_long _ _ _ c.loop-k.invariant.1 (le_trans c.loop-k.invariant.0 c.requires.0)

pub returns : goal.returns
returns c = row_end _ _ _ c.loop-k.invariant.1 _ c.loop-k.invariant.0 c.loop-k-test.false
