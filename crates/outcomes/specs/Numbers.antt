-- A number as an answer.
use Rattle.std.specs.Prelude.{ℕ, cond, Option, Some, None, eqb}

-- the number, none where it is 0
unfoldable pub found_of : ℕ → Option ℕ
found_of n = cond (eqb n 0) None (Some n)
