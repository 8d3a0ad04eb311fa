-- What the verdict promises, by cases on the answer: r is the read, u the update, and the output is held before and after.
use Rattle.tables.specs.Checks.{Fine}
use Rattle.std.specs.Prelude.{ℕ, ◌+◌, ◌*◌, ◌-◌, ◌<◌, ◌≤◌, ◌≡◌, List, length, take, drop, Option, Some, None, Result, Ok, Err}
use Rattle.tables.specs.Words.{steps, nodes}
use Rattle.tables.specs.declared.refusal.Refusal.{Refusal}
use Rattle.conflict.specs.Conflict.{Update, pattern, Witness, Conflict}
use Rattle.check_verdict.specs.Order.{verdict_check}

-- refused: the order gives this refusal, and the output is as it was
pub record IsRefused (r : List ℕ) (u : Update) (before after : List ℕ) (why : Refusal) : Type 0 where
  pub given : verdict_check r u (length before) ≡ Err why
  pub kept : after ≡ before

-- clear: no tree shows a difference, and the output is as it was
pub record IsClear (r : List ℕ) (u : Update) (before after : List ℕ) : Type 0 where
  pub fine : verdict_check r u (length before) ≡ Fine
  pub none : Conflict r u → ⊥
  pub kept : after ≡ before

-- a conflict: the first words of the output are a witness of n nodes, no witness has fewer, and all behind it is as it was
pub record IsConflict (r : List ℕ) (u : Update) (before after : List ℕ) (n : ℕ) : Type 0 where
  pub fine : verdict_check r u (length before) ≡ Fine
  pub some : 0 < n
  pub witness : Witness r u (take (2 * n) after)
  pub count : nodes (take (2 * n) after) ≡ n
  pub fewest : (t : List ℕ) → Witness r u t → n ≤ nodes t
  pub bound : n ≤ steps r + steps (pattern u) - 1
  pub long : length after ≡ length before
  pub behind : drop (2 * n) after ≡ drop (2 * n) before

-- what the node verdict promises
abbrev pub NodeVerdict : List ℕ → Update → List ℕ → List ℕ → Result (Option ℕ) Refusal → Type 0
NodeVerdict r u before after (Err why) = IsRefused r u before after why
NodeVerdict r u before after (Ok None) = IsClear r u before after
NodeVerdict r u before after (Ok (Some n)) = IsConflict r u before after n

-- the witness's node count, 0 for none
abbrev pub witness_nodes : Result (Option ℕ) Refusal → ℕ
witness_nodes (Err why) = 0
witness_nodes (Ok None) = 0
witness_nodes (Ok (Some n)) = n
