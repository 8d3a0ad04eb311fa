-- How far a text is right, whatever a right text is: the longest start of it that some right text has.
use Rattle.std.specs.Prelude.{ℕ, suc, ◌≤◌, ◌<◌, List, ◌++◌, length, take}

-- some right text begins with s
pub record Begins (Right : List ℕ → Type 0) (s : List ℕ) : Type 0 where
  pub rest : List ℕ
  pub right : Right (s ++ rest)

-- n is the length of the longest start of s that some right text has: some right text begins so, and none begins with one byte more of it
pub record Longest (Right : List ℕ → Type 0) (s : List ℕ) (n : ℕ) : Type 0 where
  pub within : n ≤ length s
  pub begins : Begins Right (take n s)
  pub no_more : n < length s → Begins Right (take (suc n) s) → ⊥
