-- What the check of a frame says where it is fine: of its number and its kind, and that its steps, its nodes and its end lie within the batch.
use Prim.Native.Nat.{ℕ, ◌+◌, ◌*◌, ◌<◌, ◌≤◌}
use mathlib.Core.Path.{◌≡◌}
use mathlib.Core.Bool.{Bool, true, false, ◌||◌, cond, not}
use mathlib.Core.List.{List}
use mathlib.Core.Logic.{◌⊎◌, inl, inr}
use native.Mathlib.Omega.{arith}
use lib.Dec.{eqb, ltb}
use lib.ListN.{length}
use borrow.Author.Tests.{eqb-true, ltb-true}
use Rattle.tables.specs.Limits.{step_limit, tree_limit, frame_limit}
use Rattle.tables.specs.Checks.{◌then◌, test, refuse, Fine}
use Rattle.tables.proofs.Accepted.{held, then_first, then_second}
use Rattle.tables.proofs.Soundness.{either_of}
use Rattle.batch_parts.specs.Parts.{count, count_check, steps_check, nodes_check}
use Rattle.batch_parts.proofs.Branches.{count_room}
use Rattle.batch_frame.specs.Frames.{kind, tree_at, kind_right, rest_check, frame_check, end_of}

module _ (b : List ℕ) (n at : ℕ) (e : frame_check b n at ≡ Fine) where
  pub frame_below : n < frame_limit
  unfolding frame_check
  frame_below = ltb-true n frame_limit (held (ltb n frame_limit) _ (then_first (test (ltb n frame_limit) (refuse 10 6 at)) _ e))

  frame_rest : (test (kind_right (kind b at)) (refuse 8 6 at) then steps_check b (at + 1) then rest_check b (kind b at) at) ≡ Fine
  unfolding frame_check
  frame_rest = then_second (test (ltb n frame_limit) (refuse 10 6 at)) _ e

  -- its kind is 1, 2 or 3
  pub frame_kind : (kind b at ≡ 1) ⊎ ((kind b at ≡ 2) ⊎ (kind b at ≡ 3))
  unfolding kind_right
  frame_kind = go (either_of (eqb (kind b at) 1) (eqb (kind b at) 2 || eqb (kind b at) 3) right)
    where
      right : kind_right (kind b at) ≡ true
      right = held (kind_right (kind b at)) _ (then_first (test (kind_right (kind b at)) (refuse 8 6 at)) _ frame_rest)

      later : (eqb (kind b at) 2 ≡ true) ⊎ (eqb (kind b at) 3 ≡ true) → (kind b at ≡ 2) ⊎ (kind b at ≡ 3)
      later (inl h) = inl (eqb-true (kind b at) 2 h)
      later (inr h) = inr (eqb-true (kind b at) 3 h)

      go : (eqb (kind b at) 1 ≡ true) ⊎ ((eqb (kind b at) 2 || eqb (kind b at) 3) ≡ true) → (kind b at ≡ 1) ⊎ ((kind b at ≡ 2) ⊎ (kind b at ≡ 3))
      go (inl h) = inl (eqb-true (kind b at) 1 h)
      go (inr h) = inr (later (either_of (eqb (kind b at) 2) (eqb (kind b at) 3) h))

  frame_body : (steps_check b (at + 1) then rest_check b (kind b at) at) ≡ Fine
  frame_body = then_second (test (kind_right (kind b at)) (refuse 8 6 at)) _ frame_rest

  pub frame_steps : steps_check b (at + 1) ≡ Fine
  frame_steps = then_first (steps_check b (at + 1)) (rest_check b (kind b at) at) frame_body

  pub frame_behind : rest_check b (kind b at) at ≡ Fine
  frame_behind = then_second (steps_check b (at + 1)) (rest_check b (kind b at) at) frame_body

  -- its steps lie within the batch
  pub steps_room : tree_at at (count b (at + 1)) ≤ length b
  unfolding steps_check
  steps_room = omega (arith, count_room b (at + 1) step_limit (then_first (count_check b (at + 1) step_limit) _ frame_steps))

  -- the nodes of an insert lie within the batch
  module _ (is : kind b at ≡ 2) where
    pub insert_nodes : nodes_check b (tree_at at (count b (at + 1))) ≡ Fine
    unfolding rest_check
    insert_nodes = rw is at frame_behind

    pub tree_room : tree_at at (count b (at + 1)) + 1 + 2 * count b (tree_at at (count b (at + 1))) ≤ length b
    unfolding nodes_check
    tree_room = count_room b (tree_at at (count b (at + 1))) tree_limit (then_first (count_check b (tree_at at (count b (at + 1))) tree_limit) _ insert_nodes)

  rest_fine : cond (eqb (kind b at) 2) (nodes_check b (tree_at at (count b (at + 1)))) Fine ≡ Fine
  unfolding rest_check
  rest_fine = then_second (test (not (eqb (kind b at) 3) || ltb 1 (count b (at + 1))) (refuse 6 6 (at + 1))) _ frame_behind

  -- it ends within the batch
  pub end_room : end_of b at ≤ length b
  unfolding end_of nodes_check
  end_room = go (eqb (kind b at) 2) rest_fine
    where
      go : (t : Bool) → cond t (nodes_check b (tree_at at (count b (at + 1)))) Fine ≡ Fine
          → cond t (tree_at at (count b (at + 1)) + 1 + 2 * count b (tree_at at (count b (at + 1)))) (tree_at at (count b (at + 1))) ≤ length b
      go true h = count_room b (tree_at at (count b (at + 1))) tree_limit (then_first (count_check b (tree_at at (count b (at + 1))) tree_limit) _ h)
      go false h = steps_room
