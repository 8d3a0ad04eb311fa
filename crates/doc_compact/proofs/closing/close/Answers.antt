use Prim.Native.Nat.{◌-◌}
use mathlib.Core.Path.{refl}
use native.Mathlib.Omega.{arith}
use borrow.Author.Rules.{rules}
use Rattle.doc_compact.proofs.Moves.{close_start, number_most, rows_long, marks_long, ids_long, places_long, movable, close_more, close_end}
use Rattle.doc_compact.proofs.closing.close.Goals as goal

pub loop-v-init : goal.loop-v-init
loop-v-init c = (search rules, λ next. close_start _ _)

pub overflow_cast-places : goal.overflow_cast-places
overflow_cast-places c = omega (arith, number_most (c.loop-v.invariant.1 0), c.requires.0.limit)

pub bounds-places-v : goal.bounds-places-v
bounds-places-v c = rw (places_long c.requires.1 c.loop-v.invariant.0 (c.loop-v.invariant.1 0)) (omega (arith, c.requires.1))

pub moved-m-requires : goal.moved-m-requires
moved-m-requires c = movable _ c.requires.0 _ c.requires.1 _ c.loop-v-test.true (c.loop-v.invariant.1 0) _

pub loop-v-preserved : goal.loop-v-preserved
loop-v-preserved c = (search rules, λ next. close_more _ c.requires.0 _ c.requires.1 _ c.loop-v-test.true (c.loop-v.invariant.1 next) refl c.moved-m.ensures)

pub shape_of-rows : goal.shape_of-rows
shape_of-rows c = rows_long c.requires.0 c.loop-v.invariant.0 (c.loop-v.invariant.1 0)

pub shape_of-marks : goal.shape_of-marks
shape_of-marks c = marks_long c.requires.0 c.loop-v.invariant.0 (c.loop-v.invariant.1 0)

pub shape_of-ids : goal.shape_of-ids
shape_of-ids c = ids_long c.requires.0 c.loop-v.invariant.0 (c.loop-v.invariant.1 0)

pub shape_of-places : goal.shape_of-places
shape_of-places c = places_long c.requires.1 c.loop-v.invariant.0 (c.loop-v.invariant.1 0)

pub returns : goal.returns
returns c = close_end _ _ _ _ c.loop-v.invariant.0 c.loop-v-test.false c.loop-v.invariant.1
