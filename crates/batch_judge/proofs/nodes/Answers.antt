-- The nodes stand behind their count, and that behind the steps.
use Prim.Native.Nat.{◌+◌, ◌*◌}
use native.Mathlib.Omega.{arith}
use Rattle.batch_judge.proofs.Parts.{nodes_past, nodes_there}
use Rattle.batch_judge.proofs.nodes.Goals as goal

pub returns-then-b-at : goal.returns-then-b-at
returns-then-b-at c = search nodes_past

pub overflow_mul-end : goal.overflow_mul-end
overflow_mul-end c = omega (arith, c.shared_slice_known-1.given (c.args.at + 1), c.word.ensures)

pub overflow_add-end-2 : goal.overflow_add-end-2
overflow_add-end-2 c = omega (arith, c.shared_slice_known-1.given (c.args.at + 1), c.word.ensures)

pub overflow_add-end-3 : goal.overflow_add-end-3
overflow_add-end-3 c = omega (arith, c.shared_slice_known-1.given (c.args.at + 1), c.word.ensures)

pub overflow_mul-word : goal.overflow_mul-word
overflow_mul-word c = omega (arith, c.shared_slice_known-1.given (c.args.at + 2 + 2 * c.word.result), c.word-2.ensures)

pub returns : goal.returns
returns c = nodes_there _ _ c.word.ensures c.word-2.ensures c.taken.ensures
