-- A frame that is fine stays fine, and stays where it is, when more words come behind it.
use Prim.Native.Nat.{ℕ, ◌+◌, ◌*◌, ◌≤◌, ◌<◌}
use mathlib.Core.Path.{◌≡◌, refl}
use mathlib.Core.Bool.{Bool, true, false, ◌||◌, not, cond}
use mathlib.Core.List.{List, ◌++◌}
use mathlib.Core.Logic.{◌⊎◌, inl, inr}
use native.Mathlib.Omega.{arith}
use lib.Dec.{eqb, ltb}
use lib.ListN.{length, get_or, drop, length-append, length-drop, get_or-append}
use lib.Seq.{take-append-le, drop-append-le}
use borrow.Author.Tests.{lt-ltb, le-leb}
use Rattle.tables.specs.Limits.{step_limit, tree_limit, frame_limit}
use Rattle.tables.specs.Checks.{test, refuse, Fine}
use Rattle.tables.proofs.Accepted.{then_first, then_second, then_both}
use Rattle.batch_parts.specs.Parts.{part, count, count_check, steps_check, nodes_check}
use Rattle.batch_frame.specs.Frames.{kind, tree_at, kind_right, rest_check, frame_check, end_of}
use Rattle.batch_parts.proofs.Branches.{count_here, count_some, count-within, count_room}
use Rattle.batch_frame.proofs.Accepted.{frame_kind, tree_room}

module _ (b more : List ℕ) where
  same_word : (i : ℕ) → i < length b → get_or (b ++ more) i 0 ≡ get_or b i 0
  same_word i h = get_or-append b more 0 i h

  same-part : (from n : ℕ) → from + n ≤ length b → part (b ++ more) from n ≡ part b from n
  same-part from n h =
      rw (drop-append-le from b more (omega arith))
      (take-append-le n (drop from b) more (rw length-drop (omega arith)))

  count-longer : (at limit : ℕ) → count_check b at limit ≡ Fine → count_check (b ++ more) at limit ≡ Fine
  unfolding count_check
  count-longer at limit e =
      let here = count_here b at limit e in
      let some = count_some b at limit e in
      let within = count-within b at limit e in
      let room = count_room b at limit e in
      rw (same_word at here, length-append, lt-ltb at (length b + length more) (omega (arith, here)), lt-ltb 0 (count b at) some, le-leb (count b at) limit within, le-leb (at + 1 + 2 * count b at) (length b + length more) (omega (arith, room)))

  steps-longer : (at : ℕ) → steps_check b at ≡ Fine → steps_check (b ++ more) at ≡ Fine
  unfolding steps_check
  steps-longer at e =
      let counted = then_first (count_check b at step_limit) _ e in
      rw (count-longer at step_limit counted, same_word at (count_here b at step_limit counted), same-part (at + 1) (2 * count b at) (count_room b at step_limit counted))
      (then_second (count_check b at step_limit) _ e)

  nodes-longer : (at : ℕ) → nodes_check b at ≡ Fine → nodes_check (b ++ more) at ≡ Fine
  unfolding nodes_check
  nodes-longer at e =
      let counted = then_first (count_check b at tree_limit) _ e in
      rw (count-longer at tree_limit counted, same_word at (count_here b at tree_limit counted), same-part (at + 1) (2 * count b at) (count_room b at tree_limit counted))
      (then_second (count_check b at tree_limit) _ e)

  rest_longer : (k at : ℕ) → at + 1 < length b → rest_check b k at ≡ Fine → rest_check (b ++ more) k at ≡ Fine
  unfolding rest_check
  rest_longer k at h e =
      rw (same_word (at + 1) h)
      (then_both (test (not (eqb k 3) || ltb 1 (count b (at + 1))) (refuse 6 6 (at + 1))) _
      (then_first (test (not (eqb k 3) || ltb 1 (count b (at + 1))) (refuse 6 6 (at + 1))) _ e)
      (go (eqb k 2) (then_second (test (not (eqb k 3) || ltb 1 (count b (at + 1))) (refuse 6 6 (at + 1))) _ e)))
    where
      go : (t : Bool) → cond t (nodes_check b (tree_at at (count b (at + 1)))) Fine ≡ Fine → cond t (nodes_check (b ++ more) (tree_at at (count b (at + 1)))) Fine ≡ Fine
      go true f = nodes-longer (tree_at at (count b (at + 1))) f
      go false f = refl

  module _ (n at : ℕ) (e : frame_check b n at ≡ Fine) where
    steps_here : steps_check b (at + 1) ≡ Fine
    unfolding frame_check
    steps_here = then_first (steps_check b (at + 1)) (rest_check b (kind b at) at) (then_second (test (kind_right (kind b at)) (refuse 8 6 at)) _ (then_second (test (ltb n frame_limit) (refuse 10 6 at)) _ e))

    behind-count : at + 1 < length b
    unfolding steps_check
    behind-count = count_here b (at + 1) step_limit (then_first (count_check b (at + 1) step_limit) _ steps_here)

    pub frame_longer : frame_check (b ++ more) n at ≡ Fine
    unfolding frame_check
    frame_longer =
        let later = then_second (test (ltb n frame_limit) (refuse 10 6 at)) _ e in
        let body = then_second (test (kind_right (kind b at)) (refuse 8 6 at)) _ later in
        rw (same_word at (omega (arith, behind-count)))
        (then_both (test (ltb n frame_limit) (refuse 10 6 at)) _ (then_first (test (ltb n frame_limit) (refuse 10 6 at)) _ e)
        (then_both (test (kind_right (kind b at)) (refuse 8 6 at)) _ (then_first (test (kind_right (kind b at)) (refuse 8 6 at)) _ later)
        (then_both (steps_check (b ++ more) (at + 1)) _
        (steps-longer (at + 1) (then_first (steps_check b (at + 1)) (rest_check b (kind b at) at) body))
        (rest_longer (kind b at) at behind-count (then_second (steps_check b (at + 1)) (rest_check b (kind b at) at) body)))))

    pub end_longer : end_of (b ++ more) at ≡ end_of b at
    unfolding end_of
    end_longer = rw (same_word at (omega (arith, behind-count)), same_word (at + 1) behind-count) (go (frame_kind b n at e))
      where
        ends : ℕ → ℕ
        ends nodes = cond (eqb (kind b at) 2) (tree_at at (count b (at + 1)) + 1 + 2 * nodes) (tree_at at (count b (at + 1)))

        go : (kind b at ≡ 1) ⊎ ((kind b at ≡ 2) ⊎ (kind b at ≡ 3)) → ends (get_or (b ++ more) (tree_at at (count b (at + 1))) 0) ≡ ends (count b (tree_at at (count b (at + 1))))
        go (inl is) = rw is refl
        go (inr (inl is)) = rw (same_word (tree_at at (count b (at + 1))) (omega (arith, tree_room b n at e is))) refl
        go (inr (inr is)) = rw is refl
