-- A row of bytes that says which nodes are chosen.
use Rattle.std.specs.Prelude.{ℕ, ◌<◌, ◌≤◌, ◌≡◌, List, ◌↔◌, length, get_or}

-- one byte a node below n: 1 exactly if the node is chosen, else 0; later bytes stay
pub record Row (chosen : ℕ → Type 0) (n : ℕ) (before after : List ℕ) : Type 0 where
  pub exactly : (v : ℕ) → v < n → (get_or after v 0 ≡ 1) ↔ chosen v
  pub bit : (v : ℕ) → v < n → get_or after v 0 ≤ 1
  pub later : (v : ℕ) → n ≤ v → get_or after v 0 ≡ get_or before v 0
  pub long : length after ≡ length before
