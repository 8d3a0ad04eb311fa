-- What is written into the frame is what the definition has.
use Prim.Native.Nat.{◌+◌, ◌*◌}
use native.Mathlib.Omega.{arith}
use Rattle.batch_frame.proofs.Branches.{frame_other, frame_insert}
use Rattle.batch_frame.proofs.frame_of.Goals as goal

pub overflow_mul-end : goal.overflow_mul-end
overflow_mul-end c = omega (arith, c.shared_slice_known-1.given (c.args.at + 1), c.word-steps.ensures)

pub overflow_add-end-2 : goal.overflow_add-end-2
overflow_add-end-2 c = omega (arith, c.shared_slice_known-1.given (c.args.at + 1), c.word-steps.ensures)

pub returns-then-kind-ne2 : goal.returns-then-kind-ne2
returns-then-kind-ne2 c = search frame_other

pub overflow_add-result-3 : goal.overflow_add-result-3
overflow_add-result-3 c = omega (arith, c.shared_slice_known-1.given (c.args.at + 1), c.word-steps.ensures)

pub overflow_mul-result : goal.overflow_mul-result
overflow_mul-result c = omega (arith, c.shared_slice_known-1.given (c.args.at + 2 + 2 * c.word-steps.result), c.word-nodes.ensures)

pub overflow_add-result-4 : goal.overflow_add-result-4
overflow_add-result-4 c = omega (arith, c.shared_slice_known-1.given (c.args.at + 1), c.word-steps.ensures, c.shared_slice_known-1.given (c.args.at + 2 + 2 * c.word-steps.result), c.word-nodes.ensures)

pub returns : goal.returns
returns c = search frame_insert
