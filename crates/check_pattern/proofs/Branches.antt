-- The branches of the code, held against those of the definitions.
use Prim.Native.Nat.{ℕ}
use mathlib.Core.Path.{◌≡◌}
use mathlib.Core.Bool.{true}
use mathlib.Core.List.{List}
use lib.Dec.{eqb}
use borrow.Author.Tests.{eq-eqb, ne_eqb}
use Rattle.tables.specs.Words.{axis}
use Rattle.tables.specs.Checks.{axis_right}

module _ (p : List ℕ) (i a : ℕ) (e : a ≡ axis p i) where
  pub axis_first : i ≡ 0 → eqb a 0 ≡ axis_right p i
  unfolding axis_right
  axis_first z = rw (e, eq-eqb i 0 z)

  pub axis_child : (i ≡ 0 → ⊥) → a ≡ 1 → true ≡ axis_right p i
  unfolding axis_right
  axis_child n h = rw (ne_eqb i 0 n, ← e, h)

  pub axis_later : (i ≡ 0 → ⊥) → (a ≡ 1 → ⊥) → eqb a 2 ≡ axis_right p i
  unfolding axis_right
  axis_later n h = rw (ne_eqb i 0 n, ← e, ne_eqb a 1 h)
