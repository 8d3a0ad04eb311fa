use mathlib.Core.Path.{refl}
use native.Mathlib.Nat.{le_trans}
use native.Mathlib.Omega.{arith}
use Rattle.selection.proofs.Filling.{row_start, row_more, row_long, row_within, row_end}
use Rattle.verdict_evidence.proofs.copy.lay.Goals as goal

pub loop-i-init : goal.loop-i-init
loop-i-init c = (omega arith, row_start _ _)

pub bounds-t-i : goal.bounds-t-i
bounds-t-i c = omega arith

pub bounds-rows-i : goal.bounds-rows-i
bounds-rows-i c = row_within _ _ _ c.loop-i.invariant.1 _ c.loop-i-test.true c.requires

pub loop-i-preserved : goal.loop-i-preserved
loop-i-preserved c = (omega arith, row_more _ _ _ c.loop-i.invariant.1 (le_trans c.loop-i-test.true c.requires) refl)

pub shape_of-rows : goal.shape_of-rows
shape_of-rows c = row_long _ _ _ c.loop-i.invariant.1 (le_trans c.loop-i.invariant.0 c.requires)

pub returns : goal.returns
returns c = row_end _ _ _ c.loop-i.invariant.1 _ c.loop-i.invariant.0 c.loop-i-test.false
