-- What the deep verdict promises, by cases on the answer: r is the read, u the update.
use Rattle.tables.specs.declared.refusal.Refusal.{Refusal}
use Rattle.tables.specs.Checks.{Fine}
use Rattle.std.specs.Prelude.{ℕ, ◌≡◌, List, Bool, true, false, Result, Ok, Err}
use Rattle.conflict.specs.Conflict.{Update, Deep}
use Rattle.check_verdict.specs.Order.{deep_check}

-- no: neither a node conflict nor, in any tree, an update point at or below a node that the read selects
pub record IsNo (r : List ℕ) (u : Update) : Type 0 where
  pub fine : deep_check r u ≡ Fine
  pub none : Deep r u → ⊥

-- yes: one or the other
pub record IsYes (r : List ℕ) (u : Update) : Type 0 where
  pub fine : deep_check r u ≡ Fine
  pub some : Deep r u

-- what the deep verdict promises
abbrev pub DeepVerdict : List ℕ → Update → Result Bool Refusal → Type 0
DeepVerdict r u (Err why) = deep_check r u ≡ Err why
DeepVerdict r u (Ok false) = IsNo r u
DeepVerdict r u (Ok true) = IsYes r u
