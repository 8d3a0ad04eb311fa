-- Numbers in decimal: bytes 48 to 57, the most significant digit first, no zero before the others.
use Rattle.std.specs.Prelude.{ℕ, zero, suc, ◌+◌, ◌-◌, ◌*◌, ◌/◌, ◌%◌, ◌<◌, ◌≤◌, ◌≡◌, cond, List, [], ◌∷◌, ◌++◌, ltb, length, get_or}

-- the digits of n, at most k of them: those of a tenth of it, then the last
unfoldable pub decimal_in : ℕ → ℕ → List ℕ
decimal_in zero n = []
decimal_in (suc k) n = cond (ltb n 10) ((48 + n) ∷ []) (decimal_in k (n / 10) ++ ((48 + n % 10) ∷ []))

-- the digits of n: a tenth of a number is less than it, so it has no more digits than itself and one
unfoldable pub decimal : ℕ → List ℕ
decimal n = decimal_in (suc n) n

-- the value of digits that stand behind others of the value n: each makes it ten times as much, and adds its own
unfoldable pub value_in : ℕ → List ℕ → ℕ
value_in n [] = n
value_in n (c ∷ s) = value_in (10 * n + (c - 48)) s

-- s is n in decimal, for n from 1 on: digits without a zero before them, whose value is n
pub record Decimal (n : ℕ) (s : List ℕ) : Type 0 where
  pub digits : (i : ℕ) → i < length s → (48 ≤ get_or s i 0) × (get_or s i 0 ≤ 57)
  pub no_zero : get_or s 0 0 ≡ 48 → ⊥
  pub value : value_in 0 s ≡ n
