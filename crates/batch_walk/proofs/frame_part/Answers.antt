-- The part from the place to the frame's end lies within the batch.
use mathlib.Core.Path.{◌∙◌, ap}
use native.Mathlib.Omega.{arith}
use Rattle.std.specs.Prelude.{Ok}
use Rattle.batch_walk.proofs.Given.{frame_words, frame_from, frame_room}
use Rattle.batch_walk.proofs.Branches.{part_frame}
use Rattle.batch_walk.proofs.frame_part.Goals as goal

pub offset_bounds-b-at : goal.offset_bounds-b-at
offset_bounds-b-at c =
    let told = c.in-Ok-Some.is ∙ ap Ok c.in-Ok-Some.field-0-is in
    omega (arith, frame_words _ _ _ c.step.ensures told, frame_from _ _ _ c.step.ensures told, frame_room _ _ _ c.step.ensures told)

pub slice_bounds-result-count : goal.slice_bounds-result-count
slice_bounds-result-count c = frame_from _ _ _ c.step.ensures (c.in-Ok-Some.is ∙ ap Ok c.in-Ok-Some.field-0-is)

pub slice_bounds-result-start : goal.slice_bounds-result-start
slice_bounds-result-start c = frame_from _ _ _ c.step.ensures (c.in-Ok-Some.is ∙ ap Ok c.in-Ok-Some.field-0-is)

pub slice_bounds-result-end : goal.slice_bounds-result-end
slice_bounds-result-end c = frame_room _ _ _ c.step.ensures (c.in-Ok-Some.is ∙ ap Ok c.in-Ok-Some.field-0-is)

pub returns-in-Ok-Some : goal.returns-in-Ok-Some
returns-in-Ok-Some c = part_frame _ _ _ c.step.ensures (c.in-Ok-Some.is ∙ ap Ok c.in-Ok-Some.field-0-is)
