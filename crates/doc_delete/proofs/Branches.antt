-- The branches of the code, held against those of the definitions.
use Prim.Native.Nat.{ℕ, ◌<◌, ◌≤◌}
use mathlib.Core.Path.{◌≡◌}
use mathlib.Core.Bool.{◌&&◌, ◌||◌, cond}
use mathlib.Core.List.{List}
use lib.Dec.{eqb, ltb}
use borrow.Author.Tests.{ne_eqb, lt-ltb, le-ltb}
use Rattle.tables.specs.Words.{steps}
use Rattle.tables.specs.Checks.{test, refuse, Checked, Fine}
use Rattle.selection.proofs.Rows.{bit_most}
use Rattle.doc_delete.specs.Striking.{strikes}

module _ (mark own above : ℕ) where
  pub struck-removed : (mark ≡ 0 → ⊥) → 0 ≡ strikes mark own above
  unfolding strikes
  struck-removed h = rw (ne_eqb mark 0 h)

  pub struck-selected : mark ≡ 0 → own ≡ 1 → 1 ≡ strikes mark own above
  unfolding strikes
  struck-selected h k = rw (h, k)

  pub struck_below : mark ≡ 0 → (own ≡ 1 → ⊥) → above ≡ 1 → 1 ≡ strikes mark own above
  unfolding strikes
  struck_below h k l = rw (h, ne_eqb own 1 k, l)

  pub struck_other : mark ≡ 0 → (own ≡ 1 → ⊥) → (above ≡ 1 → ⊥) → 0 ≡ strikes mark own above
  unfolding strikes
  struck_other h k l = rw (h, ne_eqb own 1 k, ne_eqb above 1 l)

-- a bit
pub strikes_most : (mark own above : ℕ) {x : ℕ} → x ≡ strikes mark own above → x ≤ 1
unfolding strikes
strikes_most mark own above e = rw e (bit_most (eqb mark 0 && (eqb own 1 || eqb above 1)))

module _ (hit mark : ℕ) where
  pub marked_struck : hit ≡ 1 → ◌≡◌ {A = ℕ} 1 (cond (eqb hit 1) 1 mark)
  marked_struck h = rw h

  pub marked_other : (hit ≡ 1 → ⊥) → mark ≡ cond (eqb hit 1) 1 mark
  marked_other h = rw (ne_eqb hit 1 h)

module _ (p : List ℕ) where
  pub one_step : {answer : Checked} → steps p ≤ 1 → answer ≡ refuse 6 2 0 → answer ≡ test (ltb 1 (steps p)) (refuse 6 2 0)
  one_step h e = rw (le-ltb 1 (steps p) h) e

  pub more_steps : 1 < steps p → Fine ≡ test (ltb 1 (steps p)) (refuse 6 2 0)
  more_steps h = rw (lt-ltb 1 (steps p) h)
