-- What is wrong with a counted part that is refused, and at which word of the batch.
use Rattle.std.specs.Prelude.{Ok, Err}
use Prim.Native.Nat.{ℕ, ◌+◌, ◌*◌, ◌/◌, ◌%◌, ◌<◌, ◌≤◌}
use mathlib.Core.Path.{◌≡◌, refl}
use mathlib.Core.Bool.{false}
use mathlib.Core.List.{List}
use native.Mathlib.Nat.{add-zero}
use native.Mathlib.Omega.{arith}
use lib.Dec.{ltb, leb}
use lib.ListN.{length, get_or, drop, length-take, length-drop}
use lib.Seq.{get_or-take}
use borrow.Author.Tests.{ltb-true, ltb-false, leb-false, lt-ltb, le-leb}
use Rattle.tables.specs.Limits.{step_limit, tree_limit}
use Rattle.tables.specs.Words.{tag}
use Rattle.tables.specs.Checks.{test, refuse, size_check, axis_right, pattern_check, parent_right, tree_check, Checked, Fine}
use Rattle.tables.specs.Refusals.{numbered}
use Rattle.tables.specs.declared.refusal.Refusal.{Refusal}
use Rattle.tables.proofs.Accepted.{never, held}
use Rattle.tables.proofs.Refused.{test_why, then_why, WrongSteps, size_of_steps, axis_of, pattern_why, WrongNodes, size_of_nodes, parent_of, label_of, tree_why}
use Rattle.batch_parts.specs.Parts.{part, count, in_steps, in_nodes, count_check, steps_check, nodes_check}
use Rattle.batch_parts.proofs.Branches.{count_some, count-within, count_room}

-- a count: absent, 0, over the limit, or with too few words behind it
pub data WrongCount (b : List ℕ) (at limit : ℕ) (r : Refusal) : Type 0 where
  absent : length b ≤ at → r ≡ record { reason = numbered 9; table = 6; place = length b } → WrongCount b at limit r
  none : at < length b → count b at ≡ 0 → r ≡ record { reason = numbered 1; table = 6; place = at } → WrongCount b at limit r
  over : at < length b → limit < count b at → r ≡ record { reason = numbered 2; table = 6; place = at } → WrongCount b at limit r
  short : length b < at + 1 + 2 * count b at → r ≡ record { reason = numbered 9; table = 6; place = length b } → WrongCount b at limit r

pub count_why : (b : List ℕ) (at limit : ℕ) {r : Refusal} → count_check b at limit ≡ Err r → WrongCount b at limit r
unfolding count_check
count_why b at limit e =
    then_why (test (ltb at (length b)) (refuse 9 6 (length b))) _
    (λ f. let why = test_why (ltb at (length b)) _ f in absent (ltb-false at (length b) why.0) why.1)
    (λ there e.
    let here : at < length b = ltb-true at (length b) (held (ltb at (length b)) _ there) in
    then_why (test (ltb 0 (count b at)) (refuse 1 6 at)) _
    (λ f. let why = test_why (ltb 0 (count b at)) _ f in none here (omega (arith, ltb-false 0 (count b at) why.0)) why.1)
    (λ some e.
    then_why (test (leb (count b at) limit) (refuse 2 6 at)) _
    (λ f. let why = test_why (leb (count b at) limit) _ f in over here (leb-false (count b at) limit why.0) why.1)
    (λ within f. let why = test_why (leb (at + 1 + 2 * count b at) (length b)) _ f in short (leb-false _ (length b) why.0) why.1)
    e)
    e)
    e

-- a part that has so many pairs has no wrong size
module _ (b : List ℕ) (at limit : ℕ) (fine : count_check b at limit ≡ Fine) where
  pairs : length (part b (at + 1) (2 * count b at)) ≡ 2 * count b at
  pairs = simp (length-take, length-drop) (omega (arith, count_room b at limit fine))

  size_right : {r : Refusal} {A : Type 0} → size_check (length (part b (at + 1) (2 * count b at))) limit 6 ≡ Err r → A
  unfolding size_check
  size_right e =
      let even : 2 * count b at % 2 ≡ 0 = omega arith in
      let half : 2 * count b at / 2 ≡ count b at = omega arith in
      never e (rw (pairs, lt-ltb 0 (2 * count b at) (omega (arith, count_some b at limit fine)), even, half, le-leb (count b at) limit (count-within b at limit fine)))

  -- a word of the part, from the part's start on
  word_there : (i : ℕ) → i < 2 * count b at → get_or (part b (at + 1) (2 * count b at)) i 0 ≡ get_or (drop (at + 1) b) i 0
  word_there i h = get_or-take (2 * count b at) (drop (at + 1) b) i 0 h

-- of steps: the count, or an axis
pub data StepsWrong (b : List ℕ) (at : ℕ) (r : Refusal) : Type 0 where
  count_of : WrongCount b at step_limit r → StepsWrong b at r
  axis_at : (i : ℕ) → i < count b at → axis_right (drop (at + 1) b) i ≡ false → r ≡ record { reason = numbered 3; table = 6; place = at + 1 + 2 * i }
      → at + 1 + 2 * i < length b → StepsWrong b at r

module _ (b : List ℕ) (at : ℕ) {r : Refusal} where
  axis_in : (fine : count_check b at step_limit ≡ Fine) {q : Refusal} → WrongSteps (part b (at + 1) (2 * count b at)) step_limit 6 q → in_steps (at + 1) (Err q) ≡ Err r → StepsWrong b at r
  unfolding axis_right
  axis_in fine (size_of_steps f z) e = size_right b at step_limit fine f
  axis_in fine {q} (axis_of i l w is) e =
      let low : i < count b at = omega (arith, l, pairs b at step_limit fine) in
      let flat : refuse 3 6 (at + 1 + 2 * i) ≡ Err r = rw is at e in
      let same : r ≡ record { reason = numbered 3; table = 6; place = at + 1 + 2 * i } = cc in
      axis_at i low (rw (word_there b at step_limit fine (2 * i) (omega arith)) at w) same (omega (arith, count_room b at step_limit fine))

  pub steps_why : steps_check b at ≡ Err r → StepsWrong b at r
  unfolding steps_check
  steps_why e =
      then_why (count_check b at step_limit) _
      (λ f. count_of (count_why b at step_limit f))
      (λ fine f. on fine _ refl f)
      e
    where
      on : count_check b at step_limit ≡ Fine → (c : Checked) → pattern_check (part b (at + 1) (2 * count b at)) step_limit 6 ≡ c → in_steps (at + 1) c ≡ Err r → StepsWrong b at r
      on fine (Ok tt) is f = never f refl
      on fine (Err q) is f = axis_in fine (pattern_why (part b (at + 1) (2 * count b at)) step_limit 6 is) f

-- of nodes: the count, a parent or a label
pub data NodesWrong (b : List ℕ) (at : ℕ) (r : Refusal) : Type 0 where
  node_count_of : WrongCount b at tree_limit r → NodesWrong b at r
  parent_at : (v : ℕ) → v < count b at → parent_right (drop (at + 1) b) v ≡ false → r ≡ record { reason = numbered 4; table = 6; place = at + 1 + 2 * v }
      → at + 1 + 2 * v < length b → NodesWrong b at r
  label_at : (v : ℕ) → v < count b at → tag (drop (at + 1) b) v ≡ 0 → r ≡ record { reason = numbered 5; table = 6; place = at + 1 + 2 * v + 1 }
      → at + 1 + 2 * v + 1 < length b → NodesWrong b at r

module _ (b : List ℕ) (at : ℕ) {r : Refusal} where
  node_in : (fine : count_check b at tree_limit ≡ Fine) {q : Refusal} → WrongNodes (part b (at + 1) (2 * count b at)) tree_limit 6 q → in_nodes (at + 1) (Err q) ≡ Err r → NodesWrong b at r
  unfolding parent_right
  node_in fine (size_of_nodes f z) e = size_right b at tree_limit fine f
  node_in fine {q} (parent_of v l w is) e =
      let low : v < count b at = omega (arith, l, pairs b at tree_limit fine) in
      let flat : refuse 4 6 (at + 1 + 2 * v + 0) ≡ Err r = rw is at e in
      let same : r ≡ record { reason = numbered 4; table = 6; place = at + 1 + 2 * v + 0 } = cc in
      parent_at v low (rw (word_there b at tree_limit fine (2 * v) (omega arith)) at w) (rw add-zero at same) (omega (arith, count_room b at tree_limit fine))
  node_in fine {q} (label_of v l w is) e =
      let low : v < count b at = omega (arith, l, pairs b at tree_limit fine) in
      let flat : refuse 5 6 (at + 1 + 2 * v + 1) ≡ Err r = rw is at e in
      let same : r ≡ record { reason = numbered 5; table = 6; place = at + 1 + 2 * v + 1 } = cc in
      label_at v low (rw (word_there b at tree_limit fine (2 * v + 1) (omega arith)) at w) same (omega (arith, count_room b at tree_limit fine))

  pub nodes_why : nodes_check b at ≡ Err r → NodesWrong b at r
  unfolding nodes_check
  nodes_why e =
      then_why (count_check b at tree_limit) _
      (λ f. node_count_of (count_why b at tree_limit f))
      (λ fine f. on fine _ refl f)
      e
    where
      on : count_check b at tree_limit ≡ Fine → (c : Checked) → tree_check (part b (at + 1) (2 * count b at)) tree_limit 6 ≡ c → in_nodes (at + 1) c ≡ Err r → NodesWrong b at r
      on fine (Ok tt) is f = never f refl
      on fine (Err q) is f = node_in fine (tree_why (part b (at + 1) (2 * count b at)) tree_limit 6 is) f
