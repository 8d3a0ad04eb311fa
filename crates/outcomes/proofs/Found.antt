-- The branches of the code, held against those of the definition.
use Rattle.std.specs.Prelude.{Some, None}
use Prim.Native.Nat.{ℕ}
use mathlib.Core.Path.{◌≡◌}
use borrow.Author.Tests.{eq-eqb, ne_eqb}
use Rattle.outcomes.specs.Numbers.{found_of}

pub found_none : (n : ℕ) → n ≡ 0 → None ≡ found_of n
unfolding found_of
found_none n e = rw (eq-eqb n 0 e)

pub found_some : (n : ℕ) → (n ≡ 0 → ⊥) → Some n ≡ found_of n
unfolding found_of
found_some n e = rw (ne_eqb n 0 e)
