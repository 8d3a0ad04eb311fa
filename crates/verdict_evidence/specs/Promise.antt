-- What checking a proposed tree promises, by cases on the answer: r is the read, u the update, t the proposed tree.
use Rattle.tables.specs.declared.refusal.Refusal.{Refusal}
use Rattle.tables.specs.Checks.{Fine}
use Rattle.std.specs.Prelude.{ℕ, ◌<◌, ◌≤◌, ◌≡◌, List, ◌↔◌, Option, Some, None, Result, Ok, Err}
use Rattle.tables.specs.Words.{nodes}
use Rattle.tables.specs.Documents.{Doc, bare}
use Rattle.selection.specs.Embeddings.{Selects}
use Rattle.conflict.specs.Conflict.{Update, delete, insert, after, Differs, Witness}
use Rattle.check_evidence.specs.Order.{evidence_check}

-- v is lost: the read selects it before the update and not after it
pub record Lost (r : List ℕ) (u : Update) (d : Doc) (v : ℕ) : Type 0 where
  pub before : Selects r d v
  pub gone : Selects r (after u d) v → ⊥

-- v is gained: the read selects it after the update and not before it
pub record Gained (r : List ℕ) (u : Update) (d : Doc) (v : ℕ) : Type 0 where
  pub absent : Selects r d v → ⊥
  pub behind : Selects r (after u d) v

-- what a yes names: of a delete a lost node, of an insert a new one that is gained, by the number that the insert gives it
abbrev pub Named : List ℕ → Update → List ℕ → ℕ → Type 0
Named r (delete p) t v = Lost r (delete p) (bare t) v
Named r (insert p x) t v = (nodes t ≤ v) × Gained r (insert p x) (bare t) v

-- no: the read's set of nodes on the tree is the same before and after the update
pub record IsSame (r : List ℕ) (u : Update) (t : List ℕ) : Type 0 where
  pub fine : evidence_check r u t ≡ Fine
  pub none : Differs r u (bare t) → ⊥

-- yes: the tree is a witness, v is lost or new, and it is the first: at every smaller number the read selects alike before and after
pub record IsShown (r : List ℕ) (u : Update) (t : List ℕ) (v : ℕ) : Type 0 where
  pub fine : evidence_check r u t ≡ Fine
  pub witness : Witness r u t
  pub node : Named r u t v
  pub first : (w : ℕ) → w < v → Selects r (bare t) w ↔ Selects r (after u (bare t)) w

-- the node, 0 for no difference
abbrev pub shown_node : Result (Option ℕ) Refusal → ℕ
shown_node (Err why) = 0
shown_node (Ok None) = 0
shown_node (Ok (Some v)) = v

-- what checking a proposed tree promises
abbrev pub Checks : List ℕ → Update → List ℕ → Result (Option ℕ) Refusal → Type 0
Checks r u t (Err why) = evidence_check r u t ≡ Err why
Checks r u t (Ok None) = IsSame r u t
Checks r u t (Ok (Some v)) = IsShown r u t v
