-- What moves from one word of a set into the next.
use Prim.Native.Nat.{ℕ, zero, suc}
use mathlib.Core.Bool.{Bool}
use mathlib.Core.List.{List}
use lib.ListN.{get_or}
use Rattle.pattern_set.specs.Sets.{bit}

-- what moves into word k
unfoldable pub carried : Bool → List ℕ → ℕ → Bool
carried c words zero = c
carried c words (suc k) = bit (get_or words k 0) 63
