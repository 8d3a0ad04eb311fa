use mathlib.Core.Path.{refl}
use native.Mathlib.Omega.{arith}
use borrow.Author.Rules.{rules}
use Rattle.selection.proofs.Filling.{row_start, row_more, row_within, row_long, row_end}
use Rattle.text_pattern_out.proofs.Putting.{copied_byte, copied_end}
use Rattle.text_pattern_out.proofs.put.put_name.Goals as goal

pub loop-k-init : goal.loop-k-init
loop-k-init c = (search rules, search row_start)

pub bounds-out-k : goal.bounds-out-k
bounds-out-k c = row_within _ _ _ c.loop-k.invariant.1 _ c.loop-k-test.true c.requires.n_in_bounds_2

pub loop-k-preserved : goal.loop-k-preserved
loop-k-preserved c = (search rules, row_more _ _ _ c.loop-k.invariant.1 (omega (arith, c.requires.n_in_bounds_2)) (copied_byte c.args.list.now c.args.from c.loop-k.k refl))

pub shape_of-out : goal.shape_of-out
shape_of-out c = row_long _ _ _ c.loop-k.invariant.1 (omega (arith, c.requires.n_in_bounds_2))

pub returns : goal.returns
returns c = copied_end _ _ _ _ c.requires.n_in_bounds (row_end _ _ _ c.loop-k.invariant.1 _ c.loop-k.invariant.0 c.loop-k-test.false)
