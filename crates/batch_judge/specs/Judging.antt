-- Inside: when the read and the update at two places of a batch clash.
use Rattle.tables.specs.declared.refusal.Refusal.{Refusal}
use Rattle.tables.specs.Checks.{Fine}
use Rattle.std.specs.Prelude.{◌≡◌, Bool, true, false, List, ℕ, Option, Some, None, Result, Ok, Err}
use Rattle.conflict.specs.Conflict.{Update}
use Rattle.check_verdict.specs.Order.{deep_check}

-- where a verdict accepts them, they are related; what it refuses counts as a clash, since a read that stays behind an update is never wrong
pub record Clash (Related : List ℕ → Update → Type 0) (r : List ℕ) (u : Update) : Type 0 where
  pub related : deep_check r u ≡ Fine → Related r u

-- what a verdict says of it
abbrev pub said : Result (Option ℕ) Refusal → Bool
said (Err why) = true
said (Ok None) = false
said (Ok (Some n)) = true

-- and what a deep verdict says of it
abbrev pub said_deep : Result Bool Refusal → Bool
said_deep (Err why) = true
said_deep (Ok false) = false
said_deep (Ok true) = true
