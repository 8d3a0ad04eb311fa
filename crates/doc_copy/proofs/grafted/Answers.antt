-- The copier's words and the marks of the copy, in the place of the free ones.
use native.Mathlib.Omega.{arith}
use Rattle.doc_copy.proofs.Grafting.{graft_none, room, free_copyable, graft-back}
use mathlib.Core.Path.{ap}
use mathlib.Core.Bool.{not}
use Rattle.doc_copy.proofs.grafted.Goals as goal

pub returns-then-not-has_room : goal.returns-then-not-has_room
returns-then-not-has_room c = graft_none _ _ _ _ _ c.has_room.ensures (ap not c.if-not-has_room.true)

pub overflow_mul-at : goal.overflow_mul-at
overflow_mul-at c = omega (arith, room c.args.x.now c.args.q c.args.at c.args.rows.now c.args.marks.now c.has_room.ensures (ap not c.if-not-has_room.false))

pub offset_bounds-rows-at : goal.offset_bounds-rows-at
offset_bounds-rows-at c = omega (arith, room c.args.x.now c.args.q c.args.at c.args.rows.now c.args.marks.now c.has_room.ensures (ap not c.if-not-has_room.false))

pub slice_bounds-copier-count : goal.slice_bounds-copier-count
slice_bounds-copier-count c = omega (arith, room c.args.x.now c.args.q c.args.at c.args.rows.now c.args.marks.now c.has_room.ensures (ap not c.if-not-has_room.false))

pub slice_bounds-copier-start : goal.slice_bounds-copier-start
slice_bounds-copier-start c = omega (arith, room c.args.x.now c.args.q c.args.at c.args.rows.now c.args.marks.now c.has_room.ensures (ap not c.if-not-has_room.false))

pub copier-requires : goal.copier-requires
copier-requires c = free_copyable _ c.args.q _ c.args.rows.now c.args.marks.now c.has_room.ensures (ap not c.if-not-has_room.false)

pub slice_bounds-present-count : goal.slice_bounds-present-count
slice_bounds-present-count c = omega (arith, room c.args.x.now c.args.q c.args.at c.args.rows.now c.args.marks.now c.has_room.ensures (ap not c.if-not-has_room.false))

pub slice_bounds-present-start : goal.slice_bounds-present-start
slice_bounds-present-start c = omega (arith, room c.args.x.now c.args.q c.args.at c.args.rows.now c.args.marks.now c.has_room.ensures (ap not c.if-not-has_room.false))

pub present-requires : goal.present-requires
present-requires c = omega (arith, room c.args.x.now c.args.q c.args.at c.args.rows.now c.args.marks.now c.has_room.ensures (ap not c.if-not-has_room.false))

pub overflow_add-result : goal.overflow_add-result
overflow_add-result c = omega (arith, room c.args.x.now c.args.q c.args.at c.args.rows.now c.args.marks.now c.has_room.ensures (ap not c.if-not-has_room.false))

pub returns : goal.returns
returns c = graft-back _ _ _ c.args.rows.now c.args.marks.now c.has_room.ensures (ap not c.if-not-has_room.false) (λ i. omega (arith, c.slice_known-1.given i)) c.copier.ensures c.present.ensures
