-- A flag as a bit.
use mathlib.Core.Path.{◌≡◌, refl}
use mathlib.Core.Bool.{Bool, true, false, cond}
use lib.Dec.{eqb}

-- a bit is 1 exactly where its flag holds
pub bit_flag : (b : Bool) → eqb (cond b 1 0) 1 ≡ b
bit_flag true = refl
bit_flag false = refl
