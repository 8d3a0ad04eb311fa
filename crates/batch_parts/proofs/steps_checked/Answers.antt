-- The count first, then the part behind it, which lies within the batch.
use native.Mathlib.Omega.{arith}
use Rattle.tables.specs.Limits.{step_limit}
use Rattle.tables.specs.Checks.{pattern_check}
use Rattle.tables.proofs.Branches.{handed, then_off}
use Rattle.batch_parts.specs.Parts.{in_steps, steps_check}
use Rattle.batch_parts.proofs.Branches.{part_room, part-on}
use Rattle.batch_parts.proofs.steps_checked.Goals as goal

pub overflow_add-at : goal.overflow_add-at
overflow_add-at c = omega (arith, part_room _ _ _ c.counted.ensures c.in_ok-counted.was c.word-count.ensures)

pub overflow_add-at-2 : goal.overflow_add-at-2
overflow_add-at-2 c = omega (arith, part_room _ _ _ c.counted.ensures c.in_ok-counted.was c.word-count.ensures)

pub overflow_mul-count : goal.overflow_mul-count
overflow_mul-count c = omega (arith, part_room _ _ _ c.counted.ensures c.in_ok-counted.was c.word-count.ensures)

pub overflow_add-at-3 : goal.overflow_add-at-3
overflow_add-at-3 c = omega (arith, part_room _ _ _ c.counted.ensures c.in_ok-counted.was c.word-count.ensures)

pub steps_part-requires : goal.steps_part-requires
steps_part-requires c = (omega arith, part_room _ _ _ c.counted.ensures c.in_ok-counted.was c.word-count.ensures)

pub returns : goal.returns
unfolding steps_check
returns c = part-on in_steps (λ xs. pattern_check xs step_limit 6) _ _ _ c.counted.ensures c.in_ok-counted.was c.word-count.ensures c.steps_part.ensures

pub returns-in_err-counted : goal.returns-in_err-counted
unfolding steps_check
returns-in_err-counted c = rw (handed c.from_residual.ensures) (then_off _ c.counted.ensures c.in_err-counted.was)
