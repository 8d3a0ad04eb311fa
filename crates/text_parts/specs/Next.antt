-- Where the next byte of one kind stands: a line feed that ends a line, a slash that ends a step.
use Rattle.std.specs.Prelude.{ℕ, zero, suc, ◌-◌, cond, List, eqb, length, get_or}

-- the first byte c at or behind a place, of so many bytes; behind them where there is none
unfoldable pub next_from : ℕ → List ℕ → ℕ → ℕ → ℕ
next_from c s at zero = at
next_from c s at (suc left) = cond (eqb (get_or s at 0) c) at (next_from c s (suc at) left)

-- the first byte c at or behind a place, or the end of the text
unfoldable pub next : ℕ → List ℕ → ℕ → ℕ
next c s at = next_from c s at (length s - at)
