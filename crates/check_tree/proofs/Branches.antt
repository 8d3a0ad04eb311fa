-- The branches of the code, held against those of the definitions.
use Prim.Native.Nat.{ℕ}
use mathlib.Core.Path.{◌≡◌}
use mathlib.Core.List.{List}
use lib.Dec.{eqb, ltb}
use borrow.Author.Tests.{eq-eqb, ne_eqb}
use Rattle.tables.specs.Words.{parent}
use Rattle.tables.specs.Checks.{parent_right}

module _ (t : List ℕ) (v u : ℕ) (e : u ≡ parent t v) where
  pub parent-root : v ≡ 0 → eqb u 0 ≡ parent_right t v
  unfolding parent_right
  parent-root z = rw (e, eq-eqb v 0 z)

  pub parent_other : (v ≡ 0 → ⊥) → ltb u v ≡ parent_right t v
  unfolding parent_right
  parent_other n = rw (e, ne_eqb v 0 n)
