-- Inside: what counting chosen nodes adds for a byte.
use Rattle.std.specs.Prelude.{ℕ, cond, eqb}

-- 1 for a byte 1, else 0
unfoldable pub ticked : ℕ → ℕ
ticked b = cond (eqb b 1) 1 0
