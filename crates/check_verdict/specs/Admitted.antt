-- Inside: what holds of an admitted read and update.
use Rattle.std.specs.Prelude.{ℕ, ◌<◌, ◌≤◌, List}
use Rattle.tables.specs.Limits.{step_limit}
use Rattle.tables.specs.Words.{steps}

-- patterns of at least one step and no more than the limit
pub record Bounded (r p : List ℕ) : Type 0 where
  pub reads_some : 0 < steps r
  pub reads : steps r ≤ step_limit
  pub updates_some : 0 < steps p
  pub updates : steps p ≤ step_limit
