-- The steps stand behind their count.
use Prim.Native.Nat.{◌+◌}
use native.Mathlib.Omega.{arith}
use Rattle.batch_judge.proofs.Parts.{steps_past, steps_there}
use Rattle.batch_judge.proofs.steps.Goals as goal

pub returns-then-b-at : goal.returns-then-b-at
returns-then-b-at c = search steps_past

pub overflow_mul-word : goal.overflow_mul-word
overflow_mul-word c = omega (arith, c.shared_slice_known-1.given (c.args.at + 1), c.word.ensures)

pub returns : goal.returns
returns c = steps_there c.args.b.now c.args.at c.word.ensures c.taken.ensures
