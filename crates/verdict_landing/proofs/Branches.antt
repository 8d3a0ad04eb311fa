-- The branches of the code, held against those of the definitions.
use Prim.Native.Nat.{ℕ}
use mathlib.Core.Path.{◌≡◌}
use mathlib.Core.List.{List}
use borrow.Author.Tests.{eq-eqb, ne_eqb}
use Rattle.tables.specs.Words.{label}
use Rattle.conflict.specs.Meeting.{landing, shared}
use Rattle.verdict_landing.specs.Landing.{pick, label_of}

module _ (x y : ℕ) where
  pub shared_none : x ≡ 0 → y ≡ 0 → 1 ≡ shared x y
  unfolding shared landing
  shared_none e d = rw (eq-eqb x 0 e, eq-eqb y 0 d)

  pub shared_second : x ≡ 0 → (y ≡ 0 → ⊥) → y ≡ shared x y
  unfolding shared landing
  shared_second e d = rw (eq-eqb x 0 e, ne_eqb y 0 d)

  pub shared_first : (x ≡ 0 → ⊥) → x ≡ shared x y
  unfolding shared
  shared_first e = rw (ne_eqb x 0 e)

module _ (r p : List ℕ) (i j m : ℕ) {x y l : ℕ} (d : x ≡ label r i) (e : y ≡ label p j) where
  pub label_both : m ≡ 0 → l ≡ shared x y → l ≡ label_of r p i j m
  unfolding label_of pick
  label_both z h = rw (eq-eqb m 0 z, h, d, e)

  -- a step that lands alone lands as beside a wildcard
  pub label_read : (m ≡ 0 → ⊥) → m ≡ 1 → l ≡ shared x 0 → l ≡ label_of r p i j m
  unfolding label_of pick shared landing
  label_read n z h = rw (ne_eqb m 0 n, eq-eqb m 1 z, h, d)

  pub label_update : (m ≡ 0 → ⊥) → (m ≡ 1 → ⊥) → l ≡ shared y 0 → l ≡ label_of r p i j m
  unfolding label_of pick shared landing
  label_update n z h = rw (ne_eqb m 0 n, ne_eqb m 1 z, h, e)
