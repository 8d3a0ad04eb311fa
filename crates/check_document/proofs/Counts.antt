-- Numbers that are 0 exactly where every node is right; and what a walk then answers.
use Rattle.std.specs.Prelude.{Err}
use Prim.Native.Nat.{ℕ, ◌+◌, ◌<◌, ◌≤◌}
use mathlib.Core.Path.{◌≡◌, refl, sym}
use mathlib.Core.Bool.{Bool, true, false, false≢true}
use mathlib.Core.List.{List}
use mathlib.Core.Logic.{◌↔◌}
use mir.Val.{bool_byte}
use lib.Dec.{eqb, ltb, leb}
use native.Mathlib.Nat.{zero-add, pos_of_ne-zero}
use native.Mathlib.Omega.{arith}
use borrow.Author.Count.{below_none, below_more}
use borrow.Author.Tests.{eq-eqb, ne_eqb, eqb-true, eqb-false, lt-ltb, ltb-true, lt-leb, leb-false}
use Rattle.tables.specs.declared.refusal.Refusal.{Refusal}
use Rattle.tables.specs.Words.{parent, tag}
use Rattle.tables.specs.Checks.{◌then◌, test, each, parent_right, node_check, Checked, Fine}
use Rattle.tables.proofs.Accepted.{never, each_all}

-- a is 0 exactly where P holds of each number below n
abbrev pub ZeroWhere : ℕ → (ℕ → Type 0) → ℕ → Type 0
ZeroWhere a P n = (a ≡ 0) ↔ ((k : ℕ) → k < n → P k)

module _ (P : ℕ → Type 0) where
  pub zero_start : ZeroWhere 0 P 0
  zero_start = (λ e. below_none P, λ all. refl)

  -- c is 0 where a and b are, and b is 0 where P holds of n
  pub zero_more : {a b c n : ℕ} → ZeroWhere a P n → (b ≡ 0) ↔ P n → (c ≡ 0) ↔ ((a ≡ 0) × (b ≡ 0)) → ZeroWhere c P (n + 1)
  zero_more {n = n} before here both = (
    λ e. below_more P n (before.0 (both.0 e).0) (here.0 (both.0 e).1),
    λ all. both.1 (before.1 (λ k h. all k (omega arith)), here.1 (all n (omega arith))),
  )

-- where a check is fine at each number below n, so is the walk
pub all_fine : (check : ℕ → Checked) (n : ℕ) → ((v : ℕ) → v < n → check v ≡ Fine) → Fine ≡ each check 0 n
all_fine check n all = sym (each_all check 0 n (λ v h. rw zero-add (all v h)))

-- a flag as a number
pub flag_number : (b : Bool) → (bool_byte b ≤ 1) × ((bool_byte b ≡ 0) ↔ (b ≡ false))
flag_number true = (omega arith, (λ e. absurd (omega arith), λ e. absurd (false≢true (sym e))))
flag_number false = (omega arith, (λ e. refl, λ e. refl))

pub wrong_none : {a b u bound label : ℕ} → (a ≡ 0) ↔ (leb bound u ≡ false) → (b ≡ 0) ↔ (eqb label 0 ≡ false) → (a + b ≡ 0) ↔ ((u < bound) × (0 < label))
wrong_none {u = u} {bound = bound} {label = label} first second = (
  λ e. (leb-false bound u (first.0 (omega arith)), pos_of_ne-zero (eqb-false label 0 (second.0 (omega arith)))),
  λ h. omega (arith, first.1 (lt-leb bound u h.0), second.1 (ne_eqb label 0 (λ z. omega arith))),
)

both_held : (a b : Bool) (r s : Refusal) → (test a (Err r) then test b (Err s)) ≡ Fine → (a ≡ true) × (b ≡ true)
both_held true true r s e = (refl, refl)
both_held true false r s e = never refl e
both_held false b r s e = never refl e

module _ (t : List ℕ) where
  abbrev pub NodeFine : ℕ → Type 0
  NodeFine v = node_check t 5 v ≡ Fine

  root_below : (parent t 0 < 1) ↔ (parent_right t 0 ≡ true)
  unfolding parent_right
  root_below = (λ h. eq-eqb (parent t 0) 0 (omega arith), λ e. omega (arith, eqb-true (parent t 0) 0 e))

  node_below : (v : ℕ) → 0 < v → (parent t v < v) ↔ (parent_right t v ≡ true)
  unfolding parent_right
  node_below v some = rw (ne_eqb v 0 (λ z. omega arith)) (lt-ltb (parent t v) v, ltb-true (parent t v) v)

  -- w is 0 where node v's parent is below a bound and its label is not 0
  node_none : (v bound : ℕ) {w : ℕ} → (parent t v < bound) ↔ (parent_right t v ≡ true) → (w ≡ 0) ↔ ((parent t v < bound) × (0 < tag t v)) → (w ≡ 0) ↔ NodeFine v
  unfolding node_check
  node_none v bound below right = (
    λ e. rw (below.0 (right.0 e).0, lt-ltb 0 (tag t v) (right.0 e).1),
    λ f.
        let h = both_held (parent_right t v) (ltb 0 (tag t v)) _ _ f in
        right.1 (below.1 h.0, ltb-true 0 (tag t v) h.1),
  )

  pub root_none : {w : ℕ} → (w ≡ 0) ↔ ((parent t 0 < 1) × (0 < tag t 0)) → ZeroWhere w NodeFine 1
  root_none right = zero_more NodeFine (zero_start NodeFine) (node_none 0 1 root_below right) (λ e. (refl, e), λ h. h.1)

  pub node_more : {a w v : ℕ} → 0 < v → ZeroWhere a NodeFine v → (w ≡ 0) ↔ ((parent t v < v) × (0 < tag t v)) → ZeroWhere (a + w) NodeFine (v + 1)
  node_more {v = v} some before right =
      zero_more NodeFine before (node_none v v (node_below v some) right) (λ e. (omega arith, omega arith), λ h. omega arith)
