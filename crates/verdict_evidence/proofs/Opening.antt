-- The first update point whose copy has a selected node: at it a step stands from which the read enters.
use Prim.Native.Nat.{ℕ, pred, ◌+◌, ◌*◌, ◌<◌, ◌≤◌}
use mathlib.Core.Path.{◌≡◌, ◌∙◌}
use mathlib.Core.Bool.{Bool, true, false, ◌&&◌, cond}
use mathlib.Core.List.{List}
use native.Mathlib.Nat.{mul-le-mul}
use native.Mathlib.Omega.{arith}
use lib.Dec.{eqb, ltb}
use lib.ListN.{get_or}
use borrow.Author.Tests.{lt-ltb, le-ltb}
use Rattle.tables.specs.Limits.{step_limit, tree_limit}
use Rattle.tables.specs.Words.{steps, nodes}
use Rattle.tables.specs.Documents.{bare}
use Rattle.tables.specs.Checks.{where_fine, Fine}
use Rattle.selection.specs.Lists.{tab, count, somewhere}
use Rattle.selection.specs.Ways.{empty, up, run, last, selected}
use Rattle.selection.proofs.Lists.{get_or-tab, count_ext, count_most}
use Rattle.selection.proofs.Runs.{both}
use Rattle.selection.proofs.Up.{some_up}
use Rattle.selection.proofs.Somewhere.{Somewhere, of-somewhere, to_somewhere, somewhere-same}
use Rattle.conflict.specs.Crossing.{goes_further, enters}
use Rattle.conflict.proofs.Crossing.{Crossing, goes-on_join, goes-on_split, goes-on-before}
use Rattle.verdict_entering.specs.Entering.{entering_check, entered}
use Rattle.verdict_entering.proofs.Climbing.{same_test}
use Rattle.doc_read.specs.Wanted.{wants, stands_at}
use Rattle.doc_updates.specs.Asking.{chosen, Chosen}
use Rattle.verdict_evidence.specs.Finding.{first_of, picks, opening, new_node, new_from, gained_node}
use Rattle.verdict_evidence.specs.Rows.{Standing, Enterable, Picked}
use Rattle.verdict_evidence.proofs.Firsts.{first_of_lem, first_ext}

-- a byte that is 1 exactly where a test holds
pub byte_test : (b : Bool) {n : ℕ} → n ≡ cond b 1 0 → eqb n 1 ≡ b
byte_test true e = rw e
byte_test false e = rw e

-- a row with 1 where a pattern selects
row_test : (p t row : List ℕ) → Chosen p (bare t) row → (v : ℕ) → v < nodes t → chosen row v ≡ selected p (bare t) v
unfolding chosen
row_test p t row points v h = byte_test (selected p (bare t) v) (points v h)

last_inside : (n : ℕ) → 0 < n → pred n < n
last_inside n h = omega arith

-- the states that are wanted are those before the last from which the read enters
module _ (r x : List ℕ) (fine : entering_check r x ≡ Fine) {states : List ℕ} (e : states ≡ tab (where_fine (entering_check r x) (entered r x) (λ _. 0)) step_limit) where
  wants-entered : (i : ℕ) → i < step_limit → wants states i ≡ (ltb i (last r) && enters r x i)
  unfolding wants entered
  wants-entered i h =
      byte_test (ltb i (last r) && enters r x i) {n = get_or states i 0} (rw (e, fine) (get_or-tab (λ j. cond (ltb j (last r) && enters r x j) 1 0) step_limit i h))

  -- one of them stands at the end of a way exactly if the read selects some node of a copy that hangs there
  module _ (some : 0 < steps r) (few : steps r ≤ step_limit) (w : List ℕ) (way : empty w ≡ false) where
    wanted : ℕ → Bool
    wanted i = (ltb i (last r) && enters r x i) && run r false i w

    enters-picks : somewhere wanted (steps r) ≡ true → somewhere (picks r x w) (nodes x) ≡ true
    unfolding wanted enters picks
    enters-picks q =
        let s : Somewhere wanted (steps r) = of-somewhere wanted (steps r) q in
        both (ltb s.at (last r) && enters r x s.at) (run r false s.at w) s.holds (λ enter runs.
        both (ltb s.at (last r)) (enters r x s.at) enter (λ before goes.
        let k : Somewhere (λ v. goes_further r (up x v) s.at) (nodes x) = of-somewhere (λ v. goes_further r (up x v) s.at) (nodes x) goes in
        to_somewhere (picks r x w) (nodes x) k.at k.below
        (goes-on_join r (up x k.at) w (record { state = s.at; left = k.holds; rest = runs }))))

    picks-enters : somewhere (picks r x w) (nodes x) ≡ true → somewhere wanted (steps r) ≡ true
    unfolding wanted enters picks
    picks-enters q =
        let k : Somewhere (picks r x w) (nodes x) = of-somewhere (picks r x w) (nodes x) q in
        let c : Crossing (goes_further r (up x k.at)) (λ i. run r false i w) = goes-on_split r (up x k.at) w way k.holds in
        let before : c.state < last r = goes-on-before r (up x k.at) c.state (some_up x k.at) c.left in
        to_somewhere wanted (steps r) c.state (omega (arith, before, last_inside (steps r) some))
        (rw (lt-ltb c.state (last r) before, c.rest, to_somewhere (λ v. goes_further r (up x v) c.state) (nodes x) k.at k.below c.left))

    stands_picks : somewhere (λ i. wants states i && run r false i w) (steps r) ≡ somewhere (picks r x w) (nodes x)
    unfolding wanted
    stands_picks =
        somewhere-same (λ i. wants states i && run r false i w) wanted (steps r) (λ i h. rw (wants-entered i (omega arith)))
        ∙ same_test (somewhere wanted (steps r)) (somewhere (picks r x w) (nodes x)) enters-picks picks-enters

  -- so the row of those steps is that of the open nodes
  pub row_enterable : 0 < steps r → steps r ≤ step_limit → (t row : List ℕ) → Standing r states t row → Enterable r x t row
  unfolding stands_at
  row_enterable some few t row stands =
      record { byte = λ v h. stands.byte v h ∙ rw (lt-ltb v (nodes t) h, stands_picks some few (up t v) (some_up t v)) }

-- a search ends within its numbers
copy_most : (f : ℕ → Bool) (n : ℕ) {k : ℕ} → k ≡ first_of f n → k ≤ n
copy_most f n e = rw e (first_of_lem f n).within

-- the first node of the copy
pub copy_first : (r x t : List ℕ) (q : ℕ) (row : List ℕ) → Picked r x t q row → {k : ℕ} → k ≡ first_of (λ v. chosen row (nodes t + v)) (nodes x) → k ≡ first_of (picks r x (up t q)) (nodes x)
unfolding chosen
copy_first r x t q row picked e =
    e
    ∙ first_ext (λ v. chosen row (nodes t + v)) (picks r x (up t q)) (nodes x)
    (λ v h. byte_test (picks r x (up t q) v) (picked.byte v h))

-- so much fits a number
product_most : (a b : ℕ) → a ≤ tree_limit → b ≤ tree_limit → a * b ≤ tree_limit * tree_limit
product_most a b h k = mul-le-mul h k

module _ (r p x t points enterable : List ℕ) (chose : Chosen p (bare t) points) (opened : Enterable r x t enterable) where
  -- the first node of both rows is the first point with a copy in which the read selects
  point_first : {q : ℕ} → q ≡ first_of (λ v. chosen points v && chosen enterable v) (nodes t) → q ≡ first_of (opening r p x t) (nodes t)
  unfolding chosen opening
  point_first e =
      e
      ∙ first_ext (λ v. chosen points v && chosen enterable v) (opening r p x t) (nodes t)
      (λ v h. rw (byte_test (selected p (bare t) v) (chose v h), byte_test (somewhere (picks r x (up t v)) (nodes x)) (opened.byte v h)))

  module _ {q : ℕ} (e : q ≡ first_of (λ v. chosen points v && chosen enterable v) (nodes t)) where
    -- no such point
    pub new_none : nodes t ≤ q → 0 ≡ gained_node r p x t
    unfolding gained_node new_from
    new_none h = rw (← point_first e, le-ltb q (nodes t) h)

    -- the number of the first node of its copy
    pub new_some : q < nodes t → {c k : ℕ} → c ≡ count (chosen points) q → k ≡ first_of (picks r x (up t q)) (nodes x) → nodes t + c * nodes x + k ≡ gained_node r p x t
    unfolding gained_node new_from new_node
    new_some h f g =
        rw (← point_first e, lt-ltb q (nodes t) h, f, g, count_ext (chosen points) (selected p (bare t)) q (λ v l. row_test p t points chose v (omega arith)))

-- it is a number of the machine
pub new_most : (points x t : List ℕ) (q : ℕ) (f : ℕ → Bool) {c k : ℕ} → (nodes x ≤ tree_limit) × (nodes t ≤ tree_limit) → c ≡ count (chosen points) q → q ≤ nodes t → k ≡ first_of f (nodes x)
    → (c * nodes x ≤ tree_limit * tree_limit) × (nodes t ≤ tree_limit) × (k ≤ tree_limit)
new_most points x t q f {c} few e h g =
    (product_most c (nodes x) (omega (arith, few, count_most (chosen points) q)) few.0, few.1, omega (arith, few, copy_most f (nodes x) g))
