-- The branches of the code, held against those of the definitions.
use Prim.Native.Nat.{ℕ, ◌/◌, ◌<◌, ◌≤◌}
use mathlib.Core.Path.{◌≡◌, sym, ◌∙◌}
use mathlib.Core.Bool.{Bool, false, not, and-eq-true_iff}
use lib.Dec.{ltb, leb}
use borrow.Author.Tests.{not-false, lt-ltb, ltb-true, le-leb, lt-leb, leb-true}
use native.Mathlib.Nat.{pos_of_ne-zero}
use Rattle.tables.specs.Limits.{used_limit}
use Rattle.tables.specs.Checks.{used_right}

module _ (words marks used : ℕ) where
  pub used_none : used ≡ 0 → false ≡ used_right words marks used
  unfolding used_right
  used_none z = rw z

  pub used_over : (used ≡ 0 → ⊥) → used_limit < used → false ≡ used_right words marks used
  unfolding used_right
  used_over some h = rw (lt-ltb 0 used (pos_of_ne-zero some), lt-leb used used_limit h)

  pub used_long : (used ≡ 0 → ⊥) → used ≤ used_limit → words / 2 < used → false ≡ used_right words marks used
  unfolding used_right
  used_long some h l = rw (lt-ltb 0 used (pos_of_ne-zero some), le-leb used used_limit h, lt-leb used (words / 2) l)

  pub used_fine : (used ≡ 0 → ⊥) → used ≤ used_limit → used ≤ words / 2 → leb used marks ≡ used_right words marks used
  unfolding used_right
  used_fine some h l = rw (lt-ltb 0 used (pos_of_ne-zero some), le-leb used used_limit h, le-leb used (words / 2) l)

  -- and what a right used count is
  pub used_held : {flag : Bool} → flag ≡ used_right words marks used → not flag ≡ false → (0 < used) × (used ≤ used_limit) × (used ≤ words / 2) × (used ≤ marks)
  unfolding used_right
  used_held is told =
      let a = (and-eq-true_iff (ltb 0 used) _).0 (sym is ∙ not-false _ told) in
      let b = (and-eq-true_iff (leb used used_limit) _).0 a.1 in
      let c = (and-eq-true_iff (leb used (words / 2)) (leb used marks)).0 b.1 in (
        ltb-true 0 used a.0,
        leb-true used used_limit b.0,
        leb-true used (words / 2) c.0,
        leb-true used marks c.1,
      )
