-- The branches of the code, held against those of the definition.
use Prim.Native.Nat.{ℕ, suc, ◌+◌, ◌<◌, ◌≤◌}
use mathlib.Core.Path.{◌≡◌}
use mathlib.Core.Bool.{Bool}
use mathlib.Core.List.{List}
use native.Mathlib.Numerals.{add-one}
use native.Mathlib.Omega.{arith}
use lib.Dec.{eqb}
use borrow.Author.Tests.{lt-ltb, le-ltb}
use Rattle.tables.specs.Words.{steps, axis}
use Rattle.selection.specs.Ways.{stays}

module _ (p : List ℕ) (below : Bool) (i : ℕ) where
  pub stays_end : steps p ≤ i + 1 → below ≡ stays p below i
  stays_end h = rw (le-ltb (suc i) (steps p) (omega arith))

  pub stays_out : steps p ≤ i → below ≡ stays p below i
  stays_out h = stays_end (omega arith)

  pub stays-axis : {a : ℕ} → a ≡ axis p (i + 1) → i + 1 < steps p → eqb a 2 ≡ stays p below i
  stays-axis e h = rw (lt-ltb (suc i) (steps p) (omega arith), e, add-one)
