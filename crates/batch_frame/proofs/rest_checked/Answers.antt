-- An insert has its nodes, a delete more than one step.
use Prim.Native.Nat.{◌+◌}
use native.Mathlib.Omega.{arith}
use Rattle.batch_frame.proofs.Branches.{rest_insert, rest_read, rest_one, rest_delete}
use Rattle.batch_frame.proofs.rest_checked.Goals as goal

pub overflow_mul-steps : goal.overflow_mul-steps
overflow_mul-steps c = omega (arith, c.shared_slice_known-1.given (c.args.at + 1), c.word-steps.ensures)

pub overflow_add-at-then-k-eq2-2 : goal.overflow_add-at-then-k-eq2-2
overflow_add-at-then-k-eq2-2 c = omega (arith, c.shared_slice_known-1.given (c.args.at + 1), c.word-steps.ensures)

pub returns-then-k-eq2 : goal.returns-then-k-eq2
returns-then-k-eq2 c = search rest_insert

pub returns-then-k-ne3 : goal.returns-then-k-ne3
returns-then-k-ne3 c = search rest_read

pub returns-then-steps-le1 : goal.returns-then-steps-le1
returns-then-steps-le1 c = search rest_one

pub returns : goal.returns
returns c = search rest_delete
