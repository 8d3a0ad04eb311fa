use mathlib.Core.Path.{refl}
use native.Mathlib.Omega.{arith}
use Rattle.batch_check.specs.Batches.{pattern_of}
use Rattle.batch_mode.specs.Modes.{relation_of}
use Rattle.batch_plan.proofs.Searching.{Slotted, search_start, search_none, search_hit, search_on}
use Rattle.batch_plan.proofs.Turns.{walk_start, stands, noted_few, room, read_turn, update_turn, walk_end}
use Rattle.batch_plan.proofs.plan.write.Goals as goal
use Rattle.batch_plan.proofs.plan.write.Goals.{then-j-eq0, else-j-eq0+then-conflicts}

-- the ways out of the search meet at the slot

pub loop-k-init : goal.loop-k-init
loop-k-init c = walk_start c.requires refl

pub frame_end-at-requires : goal.frame_end-at-requires
frame_end-at-requires c = stands c.loop-k.invariant c.loop-k-test.true

pub offset_bounds-places-updates : goal.offset_bounds-places-updates
offset_bounds-places-updates c = omega (arith, noted_few c.loop-k.invariant c.loop-k-test.true, room c.loop-k.invariant c.loop-k-test.true)

pub bounds-places-updates : goal.bounds-places-updates
bounds-places-updates c = omega (arith, noted_few c.loop-k.invariant c.loop-k-test.true, room c.loop-k.invariant c.loop-k-test.true)

pub overflow_add-updates : goal.overflow_add-updates
overflow_add-updates c = omega (arith, noted_few c.loop-k.invariant c.loop-k-test.true, room c.loop-k.invariant c.loop-k-test.true)

pub overflow_cast-out : goal.overflow_cast-out
overflow_cast-out c = omega (arith, noted_few c.loop-k.invariant c.loop-k-test.true, room c.loop-k.invariant c.loop-k-test.true)

pub offset_bounds-out-k : goal.offset_bounds-out-k
offset_bounds-out-k c = omega (arith, noted_few c.loop-k.invariant c.loop-k-test.true, room c.loop-k.invariant c.loop-k-test.true)

pub bounds-out-k : goal.bounds-out-k
bounds-out-k c = omega (arith, noted_few c.loop-k.invariant c.loop-k-test.true, room c.loop-k.invariant c.loop-k-test.true)

pub loop-k-preserved-then-word-ne1 : goal.loop-k-preserved-then-word-ne1
loop-k-preserved-then-word-ne1 c = update_turn c.loop-k.invariant c.loop-k-test.true c.word.ensures c.frame_end-at.ensures c.if-word-ne1.true

pub loop-j-init : goal.loop-j-init
loop-j-init c = search_start c.loop-k.invariant.noted

pub overflow_sub-j : goal.overflow_sub-j
overflow_sub-j c = omega arith

pub offset_bounds-places-j : goal.offset_bounds-places-j
offset_bounds-places-j c = omega (arith, noted_few c.loop-k.invariant c.loop-k-test.true, c.loop-j.invariant.within)

pub bounds-places-j : goal.bounds-places-j
bounds-places-j c = omega (arith, noted_few c.loop-k.invariant c.loop-k-test.true, c.loop-j.invariant.within)

pub loop-j-preserved : goal.loop-j-preserved
loop-j-preserved c = search_on (stands c.loop-k.invariant c.loop-k-test.true) c.loop-j.invariant c.if-j-eq0.false c.loop-k.invariant.noted c.conflicts.ensures c.if-conflicts.false

pub overflow_cast-out-in-loop-k : goal.overflow_cast-out-in-loop-k
overflow_cast-out-in-loop-k c = let found : Slotted (relation_of c.args.mode) c.args.b.now c.loop-k.k (pattern_of c.args.b.now c.loop-k.at) c.loop-k.updates c.if-j-eq0.slot = elim c.if-j-eq0.branch [ then-j-eq0 w ↦ search_none c.loop-j.invariant w.if-j-eq0.true w.slot-is | else-j-eq0+then-conflicts w ↦ search_hit (stands c.loop-k.invariant c.loop-k-test.true) c.loop-j.invariant w.if-j-eq0.false c.loop-k.invariant.noted w.conflicts.ensures w.if-conflicts.true w.slot-is ] in omega (arith, (found).most, noted_few c.loop-k.invariant c.loop-k-test.true)

pub offset_bounds-out-k-in-loop-k : goal.offset_bounds-out-k-in-loop-k
offset_bounds-out-k-in-loop-k c = omega (arith, room c.loop-k.invariant c.loop-k-test.true)

pub bounds-out-k-in-loop-k : goal.bounds-out-k-in-loop-k
bounds-out-k-in-loop-k c = room c.loop-k.invariant c.loop-k-test.true

pub loop-k-preserved : goal.loop-k-preserved
loop-k-preserved c = let found : Slotted (relation_of c.args.mode) c.args.b.now c.loop-k.k (pattern_of c.args.b.now c.loop-k.at) c.loop-k.updates c.if-j-eq0.slot = elim c.if-j-eq0.branch [ then-j-eq0 w ↦ search_none c.loop-j.invariant w.if-j-eq0.true w.slot-is | else-j-eq0+then-conflicts w ↦ search_hit (stands c.loop-k.invariant c.loop-k-test.true) c.loop-j.invariant w.if-j-eq0.false c.loop-k.invariant.noted w.conflicts.ensures w.if-conflicts.true w.slot-is ] in read_turn c.loop-k.invariant c.loop-k-test.true c.word.ensures c.frame_end-at.ensures c.if-word-ne1.false (found).slot

pub shape_of-out : goal.shape_of-out
shape_of-out c = c.loop-k.invariant.filled.kept

pub returns : goal.returns
returns c = walk_end c.loop-k.invariant c.loop-k-test.false
