-- A frame that is given has a number below 128.
use mathlib.Core.Path.{◌∙◌, ap}
use native.Mathlib.Omega.{arith}
use Rattle.std.specs.Prelude.{Ok}
use Rattle.batch_walk.proofs.Given.{frame_number}
use Rattle.batch_walk.proofs.number_after.Goals as goal

pub overflow_add-result : goal.overflow_add-result
overflow_add-result c = omega (arith, frame_number _ _ _ c.step.ensures (c.in-Ok-Some.is ∙ ap Ok c.in-Ok-Some.field-0-is))
