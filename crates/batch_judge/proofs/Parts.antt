-- The parts of the batch that go to the verdict are the steps and nodes of its frames.
use Prim.Native.Nat.{ℕ, ◌+◌, ◌*◌, ◌-◌, ◌<◌, ◌≤◌}
use mathlib.Core.Path.{◌≡◌, sym, ◌∙◌}
use mathlib.Core.Bool.{Bool, true}
use mathlib.Core.List.{List}
use mathlib.Core.Logic.{◌↔◌}
use native.Mathlib.Omega.{arith}
use lib.ListN.{length, drop, length-drop, drop_of_length-le}
use lib.Seq.{take_all, take-nil}
use borrow.Author.Tests.{ne_eqb}
use Rattle.conflict.specs.Conflict.{Update, delete, insert}
use Rattle.batch_parts.specs.Parts.{part, count}
use Rattle.batch_frame.specs.Frames.{kind, tree_at}
use Rattle.batch_check.specs.Batches.{pattern_of, tree_of, update_of}
use Rattle.batch_judge.specs.Judging.{Clash}

module _ (b : List ℕ) (from n : ℕ) where
  -- behind the end there are no words
  pub part_past : length b ≤ from → part b 0 0 ≡ part b from n
  part_past h = rw (drop_of_length-le b h, take-nil)

  -- fewer are left than wanted
  pub part_short : length b - from < n → part b from (length b - from) ≡ part b from n
  part_short h =
      take_all (length b - from) (drop from b) (rw length-drop (omega arith)) ∙ sym (take_all n (drop from b) (rw length-drop (omega arith)))

  pub part_there : part b from (from + n - from) ≡ part b from n
  part_there = let width : from + n - from ≡ n = omega arith in rw width

-- the steps and nodes of the frame at a place
module _ (b : List ℕ) (at : ℕ) where
  pub steps_past : length b ≤ at → part b 0 0 ≡ pattern_of b at
  steps_past h = part_past b (at + 2) (2 * count b (at + 1)) (omega arith)

  pub nodes_past : length b ≤ at → part b 0 0 ≡ tree_of b at
  nodes_past h = part_past b (tree_at at (count b (at + 1)) + 1) (2 * count b (tree_at at (count b (at + 1)))) (omega arith)

  module _ {n : ℕ} (steps : n ≡ count b (at + 1)) {words : List ℕ} where
    pub steps_there : words ≡ part b (at + 2) (2 * n) → words ≡ pattern_of b at
    steps_there e = rw steps at e

    pub nodes_there : {m : ℕ} → m ≡ count b (at + 2 + 2 * n) → words ≡ part b (at + 2 + 2 * n + 1) (2 * m) → words ≡ tree_of b at
    nodes_there f e = rw (f, steps) at e

-- what is told of the parts is told of the frames
module _ {Related : List ℕ → Update → Type 0} (b : List ℕ) (read update : ℕ) {r p : List ℕ} (reads : r ≡ pattern_of b read) (updates : p ≡ pattern_of b update) {k : ℕ} (is : k ≡ kind b update) {c : Bool} where
  pub insert_tells : {x : List ℕ} → x ≡ tree_of b update → k ≡ 2 → (c ≡ true) ↔ Clash Related r (insert p x) → (c ≡ true) ↔ Clash Related (pattern_of b read) (update_of b update)
  unfolding update_of
  insert_tells nodes two tells = rw (← is, two) (rw (reads, updates, nodes) at tells)

  pub delete_tells : (k ≡ 2 → ⊥) → (c ≡ true) ↔ Clash Related r (delete p) → (c ≡ true) ↔ Clash Related (pattern_of b read) (update_of b update)
  unfolding update_of
  delete_tells other tells = rw (← is, ne_eqb k 2 other) (rw (reads, updates) at tells)
