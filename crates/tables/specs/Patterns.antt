-- What holds of a pattern that meets no refusal 1 or 3.
use Rattle.std.specs.Prelude.{ℕ, suc, ◌<◌, ◌≡◌, List, ◌⊎◌}
use Rattle.tables.specs.Words.{steps, axis}

pub record Pattern (p : List ℕ) : Type 0 where
  pub some : 0 < steps p
  pub first : axis p 0 ≡ 0
  pub later : (i : ℕ) → suc i < steps p → (axis p (suc i) ≡ 1) ⊎ (axis p (suc i) ≡ 2)
