-- What stands outside a list is 0.
use Prim.Native.Nat.{ℕ, ◌+◌, ◌*◌, ◌-◌, ◌/◌, ◌≤◌}
use mathlib.Core.Path.{◌≡◌, sym}
use mathlib.Core.List.{List}
use native.Mathlib.Omega.{arith}
use lib.ListN.{length, get_or, get_or-eq_default}

module _ (xs : List ℕ) (i : ℕ) (h : length xs ≤ i) where
  pub outside : 0 ≡ get_or xs i 0
  outside = sym (get_or-eq_default xs 0 h)

-- a pair whose first word, or whose second, lies past the end
module _ (xs : List ℕ) (v : ℕ) where
  pub past_first : length xs - length xs / 2 ≤ v → 0 ≡ get_or xs (2 * v) 0
  past_first h = sym (get_or-eq_default xs 0 (omega arith))

  pub past_second : length xs / 2 ≤ v → 0 ≡ get_or xs (2 * v + 1) 0
  past_second h = sym (get_or-eq_default xs 0 (omega arith))
