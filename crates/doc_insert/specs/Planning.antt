-- Inside: what an insert knows before anything is written, and what the row of identities holds when it is.
use Rattle.outcomes.specs.declared.updates.Inserted.{Inserted}
use Rattle.tables.specs.declared.refusal.Refusal.{Refusal}
use Rattle.std.specs.Prelude.{ℕ, ◌+◌, ◌*◌, min, ◌≤◌, ◌≡◌, List, leb, length, Result, Ok}
use Rattle.tables.specs.Limits.{tree_limit, used_limit, identity_limit}
use Rattle.tables.specs.Documents.{Doc, capacity}
use Rattle.tables.specs.Checks.{◌then◌, test, refuse, Checked}
use Rattle.selection.specs.Operations.{copies, read_row}
use Rattle.identities.specs.Updates.{written}
use Rattle.doc_updates.specs.Updating.{insert_answer}

-- counts whose product stays small, and an identity
pub record Small (used copies nodes next : ℕ) : Type 0 where
  pub uses : used ≤ used_limit
  pub points : copies ≤ used_limit
  pub tree : nodes ≤ tree_limit
  pub identity : next ≤ identity_limit

-- 16, then 11: with so many nodes and identities more, in tables and rows of these lengths
abbrev pub left_check : ℕ → ℕ → ℕ → ℕ → ℕ → Checked
left_check end next words marks ids = test (leb next identity_limit) (refuse 16 5 0) then test (leb end (min (capacity words marks) ids)) (refuse 11 4 0)

-- the answer of an insert by its checks, and the row of a read where there is none refused
pub record Planned (check : Checked) (p x : List ℕ) (d : Doc) (next : ℕ) (before after : List ℕ) (answer : Result Inserted Refusal) : Type 0 where
  pub answered : answer ≡ insert_answer check (copies p d) (d.used + written p x d) (next + written p x d)
  pub row : {n used last : ℕ} → answer ≡ Ok (record { copies = n; used = used; next = last }) → after ≡ read_row p d before

-- so many identities from this one on are numbers of 32 bits, and the row has room for them
pub record Nameable (ids : List ℕ) (used n next : ℕ) : Type 0 where
  pub room : used + n ≤ length ids
  pub last : next + n ≤ identity_limit
