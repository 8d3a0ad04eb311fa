-- The branches of the code, held against those of the definitions.
use Prim.Native.Nat.{ℕ}
use mathlib.Core.Path.{◌≡◌}
use mathlib.Core.Bool.{Bool, true, false}
use Rattle.conflict.specs.Meeting.{sooner, least}

module _ (m n : ℕ) where
  pub least_first : {t : Bool} → t ≡ sooner m n → t ≡ true → m ≡ least m n
  unfolding least
  least_first e h = rw (← e, h)

  pub least_second : {t : Bool} → t ≡ sooner m n → t ≡ false → n ≡ least m n
  unfolding least
  least_second e h = rw (← e, h)
