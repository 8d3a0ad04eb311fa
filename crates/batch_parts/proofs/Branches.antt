-- The branches of the code, held against those of the definitions, and what a fine count says.
use Rattle.std.specs.Prelude.{Err}
use Prim.Native.Nat.{ℕ, ◌+◌, ◌-◌, ◌*◌, ◌/◌, ◌<◌, ◌≤◌}
use mathlib.Core.Path.{◌≡◌, sym, ◌∙◌}
use mathlib.Core.List.{List}
use native.Mathlib.Nat.{pos_of_ne-zero}
use native.Mathlib.Omega.{arith}
use mathlib.Core.Bool.{Bool, true, false, cond}
use lib.Dec.{eqb, ltb, leb}
use lib.ListN.{length, get_or}
use borrow.Author.Tests.{lt-ltb, le-ltb, le-leb, lt-leb, ltb-true, leb-true}
use Rattle.tables.specs.declared.refusal.Refusal.{Refusal}
use Rattle.tables.specs.Refusals.{number}
use Rattle.tables.specs.Checks.{◌then◌, test, refuse, Checked, Fine}
use Rattle.tables.proofs.Branches.{then_on}
use Rattle.tables.proofs.Accepted.{held, then_first, then_second}
use Rattle.batch_parts.specs.Parts.{part, count, in_steps, in_nodes, count_check}

-- which word of a node is named
pub named_most : (n : ℕ) {word : ℕ} → word ≡ cond (eqb n 5) 1 0 → word ≤ 1
named_most n is = go (eqb n 5) is
  where
    go : (t : Bool) {word : ℕ} → word ≡ cond t 1 0 → word ≤ 1
    go true e = omega arith
    go false e = omega arith

-- steps or nodes that are fine, and a refusal of them as one of the batch
module _ (from : ℕ) {got c : Checked} (e : got ≡ c) where
  pub steps_on : got ≡ Fine → Fine ≡ in_steps from c
  steps_on told = rw (← e, told)

  pub nodes-on : got ≡ Fine → Fine ≡ in_nodes from c
  nodes-on told = rw (← e, told)

  module _ {r : Refusal} (told : got ≡ Err r) {answer : Checked} where
    pub steps_off : answer ≡ Err (record { reason = r.reason; table = 6; place = from + 2 * r.place }) → answer ≡ in_steps from c
    steps_off a = rw (← e, told) a

    pub nodes_off : {word : ℕ} → word ≡ cond (eqb (number r.reason) 5) 1 0 → answer ≡ Err (record { reason = r.reason; table = 6; place = from + 2 * r.place + word }) → answer ≡ in_nodes from c
    nodes_off is a = rw (← e, told, ← is) a

module _ {answer : Checked} (b : List ℕ) (at limit : ℕ) where
  pub count_absent : answer ≡ refuse 9 6 (length b) → length b ≤ at → answer ≡ count_check b at limit
  unfolding count_check
  count_absent e h = rw (le-ltb at (length b) h) e

  module _ (here : at < length b) {c : ℕ} (is : c ≡ get_or b at 0) where
    pub count_none : answer ≡ refuse 1 6 at → c ≡ 0 → answer ≡ count_check b at limit
    unfolding count_check
    count_none e z = rw (lt-ltb at (length b) here, ← is, z) e

    module _ (some : c ≡ 0 → ⊥) where
      pub count-over : answer ≡ refuse 2 6 at → limit < c → answer ≡ count_check b at limit
      unfolding count_check
      count-over e h = rw (lt-ltb at (length b) here, ← is, lt-ltb 0 c (pos_of_ne-zero some), lt-leb c limit h) e

      pub count_short : c ≤ limit → answer ≡ refuse 9 6 (length b) → (length b - at - 1) / 2 < c → answer ≡ count_check b at limit
      unfolding count_check
      count_short l e h =
          rw (lt-ltb at (length b) here, ← is, lt-ltb 0 c (pos_of_ne-zero some), le-leb c limit l, lt-leb (at + 1 + 2 * c) (length b) (omega arith)) e

module _ (b : List ℕ) (at limit : ℕ) where
  pub count_fine : at < length b → {c : ℕ} → c ≡ get_or b at 0 → (c ≡ 0 → ⊥) → c ≤ limit → c ≤ (length b - at - 1) / 2 → Fine ≡ count_check b at limit
  unfolding count_check
  count_fine here {c} is some l h =
      rw (lt-ltb at (length b) here, ← is, lt-ltb 0 c (pos_of_ne-zero some), le-leb c limit l, le-leb (at + 1 + 2 * c) (length b) (omega arith))

  -- what a fine count says: it stands there, is not 0 and within the limit, and so many pairs stand behind it
  module _ (e : count_check b at limit ≡ Fine) where
    tail_one : (test (ltb 0 (count b at)) (refuse 1 6 at) then test (leb (count b at) limit) (refuse 2 6 at) then test (leb (at + 1 + 2 * count b at) (length b)) (refuse 9 6 (length b))) ≡ Fine
    unfolding count_check
    tail_one = then_second (test (ltb at (length b)) (refuse 9 6 (length b))) _ e

    tail_two : (test (leb (count b at) limit) (refuse 2 6 at) then test (leb (at + 1 + 2 * count b at) (length b)) (refuse 9 6 (length b))) ≡ Fine
    tail_two = then_second (test (ltb 0 (count b at)) (refuse 1 6 at)) _ tail_one

    pub count_here : at < length b
    unfolding count_check
    count_here = ltb-true at (length b) (held (ltb at (length b)) _ (then_first (test (ltb at (length b)) (refuse 9 6 (length b))) _ e))

    pub count_some : 0 < count b at
    count_some = ltb-true 0 (count b at) (held (ltb 0 (count b at)) _ (then_first (test (ltb 0 (count b at)) (refuse 1 6 at)) _ tail_one))

    pub count-within : count b at ≤ limit
    count-within = leb-true (count b at) limit (held (leb (count b at) limit) _ (then_first (test (leb (count b at) limit) (refuse 2 6 at)) _ tail_two))

    pub count_room : at + 1 + 2 * count b at ≤ length b
    count_room = leb-true _ (length b) (held (leb (at + 1 + 2 * count b at) (length b)) _ (then_second (test (leb (count b at) limit) (refuse 2 6 at)) _ tail_two))

-- the part behind a count that is fine lies within the batch
pub part_room : (b : List ℕ) (at limit : ℕ) {c : ℕ} {got : Checked} → got ≡ count_check b at limit → got ≡ Fine → c ≡ count b at → at + 1 + 2 * c ≤ length b
part_room b at limit e f is = rw is (count_room b at limit (sym e ∙ f))

-- a count, and then a check of the part behind it
pub part-on : (inPart : ℕ → Checked → Checked) (check : List ℕ → Checked) (b : List ℕ) (at limit : ℕ) {c : ℕ} {got answer : Checked}
    → got ≡ count_check b at limit → got ≡ Fine → c ≡ count b at
    → answer ≡ inPart (at + 1) (check (part b (at + 1) (at + 1 + 2 * c - (at + 1))))
    → answer ≡ (count_check b at limit then inPart (at + 1) (check (part b (at + 1) (2 * count b at))))
part-on inPart check b at limit {c} e f is a =
    let width : at + 1 + 2 * c - (at + 1) ≡ 2 * c = omega arith in
    then_on _ e f (a ∙ rw (width, is))
