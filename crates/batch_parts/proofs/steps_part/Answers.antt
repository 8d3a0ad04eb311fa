-- The check is made on the part itself; the axis that it refuses lies within the batch.
use Prim.Native.Nat.{◌+◌, ◌*◌, ◌≤◌}
use lib.ListN.{length}
use native.Mathlib.Omega.{arith}
use Rattle.batch_parts.proofs.Branches.{steps_on, steps_off}
use Rattle.batch_parts.proofs.Places.{step_offset}
use Rattle.batch_parts.proofs.steps_part.Goals as goal

pub overflow_mul-r : goal.overflow_mul-r
overflow_mul-r c = let within : c.args.from + 2 * c.in-Err.r.place ≤ length c.args.b.now = step_offset _ _ _ _ _ c.requires.0 c.requires.1 c.in-Err.is c.pattern.ensures in omega (arith, within)

pub overflow_add-from : goal.overflow_add-from
overflow_add-from c = let within : c.args.from + 2 * c.in-Err.r.place ≤ length c.args.b.now = step_offset _ _ _ _ _ c.requires.0 c.requires.1 c.in-Err.is c.pattern.ensures in omega (arith, within)

pub returns-in-Ok : goal.returns-in-Ok
returns-in-Ok c = steps_on _ c.pattern.ensures c.in-Ok.is

pub returns-in-Err : goal.returns-in-Err
returns-in-Err c = steps_off _ c.pattern.ensures c.in-Err.is c.refused.ensures
