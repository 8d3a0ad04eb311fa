-- Numbers that are 0 exactly where every mark is 0, or every mark right; and what the marks' check then answers.
use Rattle.std.specs.Prelude.{Err}
use Prim.Native.Nat.{ℕ, zero, suc, max, ◌+◌, ◌<◌, ◌≤◌}
use mathlib.Core.Path.{◌≡◌, refl, sym}
use mathlib.Core.Bool.{Bool, true, false, and-eq-true_iff}
use mathlib.Core.List.{List}
use mathlib.Core.Logic.Iff
use mathlib.Core.Logic.{◌↔◌}
use lib.Dec.{eqb, ltb, leb}
use lib.ListN.{get_or}
use native.Mathlib.Nat.{zero-add}
use native.Mathlib.Omega.{arith}
use borrow.Author.Tests.{ne_eqb, eqb-true, le-ltb, ltb-false, le-leb, leb-true}
use Rattle.tables.specs.declared.refusal.Refusal.{Refusal}
use Rattle.tables.specs.Words.{parent}
use Rattle.tables.specs.Checks.{refuse, ◌then◌, test, each, node_check, mark_right, mark_check, Checked, Fine}
use Rattle.tables.proofs.Accepted.{held, each_fine}
use Rattle.tables.proofs.Soundness.{node_falls}
use Rattle.check_document.proofs.Counts.{ZeroWhere, zero_start, zero_more, all_fine}

-- one refusal for every test: a walk that is not fine answers it
module _ (right : ℕ → Bool) (r : Refusal) where
  pub each_same : (v k : ℕ) → (each (λ i. test (right i) (Err r)) v k ≡ Fine → ⊥) → each (λ i. test (right i) (Err r)) v k ≡ Err r
  unfolding each
  each_same v zero bad = absurd (bad refl)
  each_same v (suc k) bad = go (right v) (each_same (suc v) k) bad
    where
      go : (b : Bool) {rest : Checked} → ((rest ≡ Fine → ⊥) → rest ≡ Err r) → ((test b (Err r) then rest) ≡ Fine → ⊥) → (test b (Err r) then rest) ≡ Err r
      go true on bad = on bad
      go false on bad = refl

-- no fault of the two
pub wrong_mark_none : {a b own above : ℕ} → (a ≡ 0) ↔ (ltb 1 own ≡ false) → (b ≡ 0) ↔ (ltb own above ≡ false) → (a + b ≡ 0) ↔ ((own ≤ 1) × (above ≤ own))
wrong_mark_none {own = own} {above = above} first second = (
  λ e. (ltb-false 1 own (first.0 (omega arith)), ltb-false own above (second.0 (omega arith))),
  λ h. omega (arith, first.1 (le-ltb 1 own h.0), second.1 (le-ltb own above h.1)),
)

module _ (m : List ℕ) where
  abbrev pub MarkNone : ℕ → Type 0
  MarkNone v = get_or m v 0 ≡ 0

  pub greater_more : {a c v : ℕ} → ZeroWhere a MarkNone v → c ≡ max a (get_or m v 0) → ZeroWhere c MarkNone (v + 1)
  greater_more before e = zero_more MarkNone before Iff.rfl (λ z. (omega arith, omega arith), λ h. omega arith)

module _ (t m : List ℕ) where
  abbrev pub MarkFine : ℕ → Type 0
  MarkFine v = mark_check t m v ≡ Fine

  root_right : (get_or m 0 0 ≡ 0) ↔ (mark_right t m 0 ≡ true)
  unfolding mark_right
  root_right = (λ e. rw e, λ h. eqb-true (get_or m 0 0) 0 ((and-eq-true_iff (leb (get_or m 0 0) 1) (eqb (get_or m 0 0) 0)).0 h).1)

  mark_right_lem : (v : ℕ) → 0 < v → ((get_or m v 0 ≤ 1) × (get_or m (parent t v) 0 ≤ get_or m v 0)) ↔ (mark_right t m v ≡ true)
  unfolding mark_right
  mark_right_lem v some =
      let own = get_or m v 0 in
      let above = get_or m (parent t v) 0 in
      rw (ne_eqb v 0 (λ z. omega arith)) (
        λ h. rw (le-leb own 1 h.0, le-leb above own h.1),
        λ e.
            let h = (and-eq-true_iff (leb own 1) (leb above own)).0 e in (leb-true own 1 h.0, leb-true above own h.1),
      )

  -- w is 0 where a condition holds that says that node v's mark is right
  mark_none : {A : Type 0} (v : ℕ) {w : ℕ} → A ↔ (mark_right t m v ≡ true) → (w ≡ 0) ↔ A → (w ≡ 0) ↔ MarkFine v
  unfolding mark_check
  mark_none v is right = (λ e. rw (is.0 (right.0 e)), λ f. right.1 (is.1 (held (mark_right t m v) _ f)))

  pub root-mark : {w : ℕ} → (w ≡ 0) ↔ (ltb 0 (get_or m 0 0) ≡ false) → ZeroWhere w MarkFine 1
  root-mark right =
      zero_more MarkFine (zero_start MarkFine)
      (mark_none 0 root_right (λ e. omega (arith, ltb-false 0 (get_or m 0 0) (right.0 e)), λ z. right.1 (le-ltb 0 (get_or m 0 0) (omega arith))))
      (λ e. (refl, e), λ h. h.1)

  pub mark_more : {a w v : ℕ} → 0 < v → ZeroWhere a MarkFine v → (w ≡ 0) ↔ ((get_or m v 0 ≤ 1) × (get_or m (parent t v) 0 ≤ get_or m v 0)) → ZeroWhere (a + w) MarkFine (v + 1)
  mark_more {v = v} some before right =
      zero_more MarkFine before (mark_none v (mark_right_lem v some) right) (λ e. (omega arith, omega arith), λ h. omega arith)

  -- above a node that is right stands its parent, whose mark is 0 too
  module _ (n : ℕ) (fine : each (node_check t 5) 0 n ≡ Fine) (none : (v : ℕ) → v < n → MarkNone m v) where
    mark_fine : (v : ℕ) → v < n → MarkFine v
    unfolding mark_check mark_right
    mark_fine zero h = rw (none 0 h)
    mark_fine (suc v) h =
        let falls = node_falls t 5 n fine (suc v) (omega arith) h in
        rw (none (suc v) h, ne_eqb (suc v) 0 (λ e. omega arith), none (parent t (suc v)) (omega arith))

    pub none_fine : Fine ≡ each (mark_check t m) 0 n
    none_fine = all_fine (mark_check t m) n mark_fine

  -- not each mark right: the refusal
  pub some_wrong : {c : Checked} (n : ℕ) → c ≡ refuse 12 5 0 → (((v : ℕ) → v < n → MarkFine v) → ⊥) → c ≡ each (mark_check t m) 0 n
  unfolding mark_check
  some_wrong n is bad = rw is (sym (each_same (mark_right t m) _ 0 n (λ f. bad (λ v h. rw zero-add at (each_fine (mark_check t m) 0 n f v h)))))
