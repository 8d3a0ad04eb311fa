-- What the check of a frame says where it is fine: its steps are an accepted pattern and its nodes an accepted tree, so what it means is fit.
use Rattle.std.specs.Prelude.{Ok, Err}
use Prim.Native.Nat.{ℕ, ◌+◌, ◌*◌, ◌<◌, ◌≤◌}
use mathlib.Core.Path.{◌≡◌, refl}
use mathlib.Core.List.{List}
use mathlib.Core.Logic.{◌⊎◌, inl, inr}
use native.Mathlib.Decide.{dec_lt}
use native.Mathlib.Omega.{arith}
use lib.Dec.{ltb}
use lib.ListN.{length, get_or, drop, length-take, length-drop, get_or-eq_default}
use lib.Seq.{get_or-take, get_or-drop}
use borrow.Author.Tests.{ltb-true}
use Rattle.tables.specs.Limits.{step_limit, tree_limit, word_limit}
use Rattle.tables.specs.Words.{steps, Bits16}
use Rattle.tables.specs.Checks.{pattern_check, tree_check, Checked, Fine}
use Rattle.tables.proofs.Accepted.{never, held, then_first, then_second}
use Rattle.tables.proofs.Soundness.{accepted_pattern, accepted_tree}
use Rattle.order.specs.Fitting.{Fit, FitFrame}
use Rattle.batch_parts.specs.Parts.{part, count, in_steps, in_nodes, count_check, steps_check, nodes_check}
use Rattle.batch_frame.specs.Frames.{kind, tree_at, rest_check, frame_check}
use Rattle.batch_frame.proofs.Accepted.{frame_kind, frame_steps, frame_behind, steps_room, insert_nodes}
use Rattle.batch_check.specs.Batches.{pattern_of, tree_of, update_of, meaning}

-- steps and nodes that are refused nowhere in the batch are fine
steps_are : (from : ℕ) (c : Checked) → in_steps from c ≡ Fine → c ≡ Fine
steps_are from (Ok tt) e = refl
steps_are from (Err r) e = never refl e

nodes_are : (from : ℕ) (c : Checked) → in_nodes from c ≡ Fine → c ≡ Fine
nodes_are from (Ok tt) e = refl
nodes_are from (Err r) e = never refl e

-- the words of a part are words of the batch, or 0
pub part_words : (b : List ℕ) (from n : ℕ) → Bits16 b → Bits16 (part b from n)
part_words b from n words i = go (dec_lt i n)
  where
    go : Dec (i < n) → get_or (part b from n) i 0 < word_limit
    go (yes h) = rw (get_or-take n (drop from b) i 0 h, get_or-drop) (words (from + i))
    go (no h) =
        let short : length (part b from n) ≤ i = rw length-take (omega arith) in
        rw (get_or-eq_default (part b from n) 0 short) (omega arith)

pub part_length : (b : List ℕ) (from n : ℕ) → from + n ≤ length b → length (part b from n) ≡ n
part_length b from n h = simp (length-take, length-drop) (omega arith)

module _ (b : List ℕ) (n at : ℕ) (e : frame_check b n at ≡ Fine) where
  -- its steps are an accepted pattern
  pub steps_fine : pattern_check (pattern_of b at) step_limit 6 ≡ Fine
  unfolding steps_check
  steps_fine =
      let from : at + 1 + 1 ≡ at + 2 = omega arith in
      let fine : pattern_check (part b (at + 1 + 1) (2 * count b (at + 1))) step_limit 6 ≡ Fine =
      steps_are (at + 1 + 1) _ (then_second (count_check b (at + 1) step_limit) _ (frame_steps b n at e)) in
      rw from at fine

  pub steps-count : steps (pattern_of b at) ≡ count b (at + 1)
  steps-count = rw (part_length b (at + 2) (2 * count b (at + 1)) (steps_room b n at e)) (omega arith)

  -- a delete has more than one step
  pub delete_two : kind b at ≡ 3 → 1 < steps (pattern_of b at)
  unfolding rest_check
  delete_two is =
      rw steps-count
      (ltb-true 1 (count b (at + 1)) (held (ltb 1 (count b (at + 1))) _ (then_first _ Fine (rw is at (frame_behind b n at e)))))

  -- the nodes of an insert are an accepted tree
  module _ (is : kind b at ≡ 2) where
    pub tree_fine : tree_check (tree_of b at) tree_limit 6 ≡ Fine
    unfolding nodes_check
    tree_fine = nodes_are (tree_at at (count b (at + 1)) + 1) _ (then_second (count_check b (tree_at at (count b (at + 1))) tree_limit) _ (insert_nodes b n at e is))

  module _ (words : Bits16 b) where
    fit_pattern : Fit (pattern_of b at)
    fit_pattern = record {
      pattern = accepted_pattern (pattern_of b at) step_limit 6 steps_fine;
      labels = λ i. part_words b (at + 2) (2 * count b (at + 1)) words (2 * i + 1);
    }

    -- so what it means is fit
    pub frame_fit : FitFrame (meaning b at)
    unfolding meaning update_of
    frame_fit = go (frame_kind b n at e)
      where
        go : (kind b at ≡ 1) ⊎ ((kind b at ≡ 2) ⊎ (kind b at ≡ 3)) → FitFrame (meaning b at)
        go (inl is) = rw is fit_pattern
        go (inr (inl is)) = rw is (record { fit = fit_pattern; tree = accepted_tree (tree_of b at) tree_limit 6 (tree_fine is) (part_words b (tree_at at (count b (at + 1)) + 1) (2 * count b (tree_at at (count b (at + 1)))) words) })
        go (inr (inr is)) = rw is (record { fit = fit_pattern; two = delete_two is })
