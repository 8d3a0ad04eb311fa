-- A frame ends behind its steps, an insert behind its nodes; both lie within the batch.
-- where the steps end
use Prim.Native.Nat.{ℕ, ◌+◌, ◌*◌, ◌≤◌}
use mathlib.Core.Path.{◌≡◌, sym, ◌∙◌, ap}
use lib.ListN.{length}
use native.Mathlib.Omega.{arith}
use Rattle.batch_parts.specs.Parts.{count}
use Rattle.batch_frame.specs.Frames.{tree_at}
use Rattle.batch_frame.proofs.Accepted.{steps_room, tree_room}
use Rattle.batch_check.proofs.Frames.{end_other, end_insert}
use Rattle.batch_plan.proofs.plan.frame_end.Goals as goal

pub overflow_add-end : goal.overflow_add-end
overflow_add-end c = omega (arith, steps_room _ _ _ c.requires.fine)

pub overflow_add-at : goal.overflow_add-at
overflow_add-at c = omega (arith, steps_room _ _ _ c.requires.fine)

pub overflow_mul-end : goal.overflow_mul-end
overflow_mul-end c = omega (arith, steps_room _ _ _ c.requires.fine, c.word.ensures)

pub overflow_add-end-2 : goal.overflow_add-end-2
overflow_add-end-2 c = omega (arith, steps_room _ _ _ c.requires.fine, c.word.ensures)

pub returns-then-word-ne2 : goal.returns-then-word-ne2
returns-then-word-ne2 c = let end : tree_at c.args.at c.word.result ≡ tree_at c.args.at (count c.args.b.now (c.args.at + 1)) = ap (λ (n : ℕ). tree_at c.args.at n) c.word.ensures in end_other _ _ c.word-2.ensures end c.if-word-ne2.true

pub overflow_add-result : goal.overflow_add-result
overflow_add-result c = let room : tree_at c.args.at c.word.result + 1 + 2 * count c.args.b.now (tree_at c.args.at c.word.result) ≤ length c.args.b.now = rw c.word.ensures (tree_room _ _ _ c.requires.fine (sym c.word-2.ensures ∙ c.if-word-ne2.false)) in omega (arith, room)

pub overflow_mul-result : goal.overflow_mul-result
overflow_mul-result c = let room : tree_at c.args.at c.word.result + 1 + 2 * count c.args.b.now (tree_at c.args.at c.word.result) ≤ length c.args.b.now = rw c.word.ensures (tree_room _ _ _ c.requires.fine (sym c.word-2.ensures ∙ c.if-word-ne2.false)) in omega (arith, room, c.word-3.ensures)

pub overflow_add-result-2 : goal.overflow_add-result-2
overflow_add-result-2 c = let room : tree_at c.args.at c.word.result + 1 + 2 * count c.args.b.now (tree_at c.args.at c.word.result) ≤ length c.args.b.now = rw c.word.ensures (tree_room _ _ _ c.requires.fine (sym c.word-2.ensures ∙ c.if-word-ne2.false)) in omega (arith, room, c.word-3.ensures)

pub returns : goal.returns
returns c = let end : tree_at c.args.at c.word.result ≡ tree_at c.args.at (count c.args.b.now (c.args.at + 1)) = ap (λ (n : ℕ). tree_at c.args.at n) c.word.ensures in end_insert _ _ c.word-2.ensures end c.if-word-ne2.false c.word-3.ensures
