-- Identities that rise step by step, the last of them below the next one, are right.
use Prim.Native.Nat.{ℕ, zero, suc, pred, ◌+◌, ◌-◌, ◌<◌, ◌≤◌}
use mathlib.Core.Path.{◌≡◌, refl, sym, ◌∙◌}
use mathlib.Core.Bool.{true, false, cond, and-eq-true_iff}
use mathlib.Core.List.{List}
use mathlib.Core.Logic.{◌↔◌}
use native.Mathlib.Decide.{ℕ_discrete}
use native.Mathlib.Nat.{zero-add, add-zero, pos_of_ne-zero}
use native.Mathlib.Omega.{arith}
use lib.Dec.{eqb, ltb, leb}
use lib.ListN.{length, get_or}
use borrow.Author.Tests.{eq-eqb, ne_eqb, lt-ltb, ltb-true, le-leb, lt-leb, leb-false}
use Rattle.tables.specs.Checks.{refuse, each, Fine}
use Rattle.tables.proofs.Accepted.{held, each_fine}
use Rattle.check_document.proofs.Counts.{ZeroWhere, zero_start, zero_more, all_fine}
use Rattle.check_document.proofs.Marks.{each_same}
use Rattle.identities.specs.Checks.{identity_right, identity_check, identities_check}

before_is : (v : ℕ) → v - 1 ≡ pred v
before_is zero = refl
before_is (suc v) = omega arith

module _ (ids : List ℕ) where
  -- the identity of v is above that of the node before
  abbrev pub Above : ℕ → Type 0
  Above v = 0 < v → get_or ids (pred v) 0 < get_or ids v 0

  pub root_above : ZeroWhere 0 Above 1
  root_above = zero_more Above (zero_start Above) (λ e. λ h. absurd (omega arith), λ h. refl) (λ e. (refl, refl), λ h. refl)

  pub above_more : {count w v : ℕ} → 0 < v → ZeroWhere count Above v → (w ≡ 0) ↔ (leb (get_or ids v 0) (get_or ids (v - 1) 0) ≡ false) → ZeroWhere (count + w) Above (v + 1)
  above_more {w = w} {v = v} some before told =
      let here : (w ≡ 0) ↔ (leb (get_or ids v 0) (get_or ids (pred v) 0) ≡ false) = rw (before_is v) at told in
      zero_more Above before
      (λ e. λ h. leb-false (get_or ids v 0) (get_or ids (pred v) 0) (here.0 e), λ h. here.1 (lt-leb (get_or ids v 0) (get_or ids (pred v) 0) (h some)))
      (λ e. (omega arith, omega arith), λ h. omega arith)

  module _ (used next : ℕ) where
    -- one after another they rise to the last, so each is at most that
    rises : ((v : ℕ) → v < used → Above v) → (v k : ℕ) → v + k < used → get_or ids v 0 ≤ get_or ids (v + k) 0
    rises all v zero h = rw add-zero (omega arith)
    rises all v (suc k) h =
        let e : v + suc k ≡ suc (v + k) = omega arith in
        let up : get_or ids (v + k) 0 < get_or ids (suc (v + k)) 0 = all (suc (v + k)) (omega arith) (omega arith) in
        rw e (omega (arith, rises all v k (omega arith), up))

    below_last : ((v : ℕ) → v < used → Above v) → (v : ℕ) → v < used → get_or ids v 0 ≤ get_or ids (used - 1) 0
    below_last all v h =
        let e : used - 1 ≡ v + (used - 1 - v) = omega arith in
        rw e (rises all v (used - 1 - v) (omega arith))

    right_one : (v : ℕ) → get_or ids v 0 < next → Above v → identity_right ids next v ≡ true
    unfolding identity_right
    right_one v h above = rw (lt-ltb (get_or ids v 0) next h) (go (ℕ_discrete v 0))
      where
        go : Dec (v ≡ 0) → cond (eqb v 0) true (ltb (get_or ids (pred v) 0) (get_or ids v 0)) ≡ true
        go (yes z) = rw (eq-eqb v 0 z)
        go (no s) = rw (ne_eqb v 0 s) (lt-ltb (get_or ids (pred v) 0) (get_or ids v 0) (above (pos_of_ne-zero s)))

    -- and a right one is below the next and above the one before
    one_right : (v : ℕ) → identity_right ids next v ≡ true → (get_or ids v 0 < next) × Above v
    unfolding identity_right
    one_right v e =
        let h = (and-eq-true_iff (ltb (get_or ids v 0) next) _).0 e in (
          ltb-true (get_or ids v 0) next h.0,
          λ some. ltb-true (get_or ids (pred v) 0) (get_or ids v 0) (rw (ne_eqb v 0 (λ z. omega arith)) at h.1),
        )

    -- the answers of the code
    pub row_short : length ids < used → refuse 12 5 0 ≡ identities_check ids used next
    unfolding identities_check
    row_short h = rw (lt-leb used (length ids) h)

    module _ (row : used ≤ length ids) where
      walk : identities_check ids used next ≡ each (identity_check ids next) 0 used
      unfolding identities_check
      walk = rw (le-leb used (length ids) row)

      pub none_used : used ≡ 0 → Fine ≡ identities_check ids used next
      unfolding each
      none_used z = sym (walk ∙ rw z)

      pub all_right : 0 < used → get_or ids (used - 1) 0 < next → ((v : ℕ) → v < used → Above v) → Fine ≡ identities_check ids used next
      unfolding identity_check
      all_right some h all =
          all_fine (identity_check ids next) used (λ v l. rw (right_one v (omega (arith, below_last all v l)) (all v l))) ∙ sym walk

      wrong : (each (identity_check ids next) 0 used ≡ Fine → ⊥) → refuse 12 5 0 ≡ identities_check ids used next
      unfolding identity_check
      wrong bad = sym (walk ∙ each_same (identity_right ids next) _ 0 used bad)

      right_at : each (identity_check ids next) 0 used ≡ Fine → (v : ℕ) → v < used → (get_or ids v 0 < next) × Above v
      unfolding identity_check
      right_at fine v h = one_right v (held (identity_right ids next v) _ (rw zero-add at (each_fine (identity_check ids next) 0 used fine v h)))

      pub last_wrong : 0 < used → next ≤ get_or ids (used - 1) 0 → refuse 12 5 0 ≡ identities_check ids used next
      last_wrong some h = wrong (λ fine. omega (arith, (right_at fine (used - 1) (omega arith)).0))

      pub not_above : (((v : ℕ) → v < used → Above v) → ⊥) → refuse 12 5 0 ≡ identities_check ids used next
      not_above bad = wrong (λ fine. bad (λ v h. (right_at fine v h).1))
