-- When two runs of one batch differ in the numbers of nodes alone.
use Rattle.outcomes.specs.declared.updates.Inserted.{Inserted}
use Rattle.tables.specs.Checks.{Checked}
use Rattle.std.specs.Prelude.{ℕ, ◌+◌, ◌≤◌, ◌≡◌, List, [], ◌∷◌, ◌↔◌, Result, Ok, Err}
use Rattle.tables.specs.declared.refusal.Refusal.{Refusal}
use Rattle.identities.specs.Documents.{Document}
use Rattle.identities.specs.Updates.{room_of}
use Rattle.compaction.specs.Alike.{Alike}
use Rattle.order.specs.Frames.{At}
use Rattle.order_calls.specs.Calls.{Reply, reading, deleting, inserting, Called, called, NoRoom, SaysIdentity}

-- two documents that hold the same things by identity and have the same room, of which the first has so many more nodes in use
pub record Gap (more : ℕ) (d e : Document) : Type 0 where
  pub alike : Alike d e
  pub room : room_of d ≡ room_of e
  pub used : e.tables.used + more ≡ d.tables.used

-- inserts that answer the same, but for the used count, which keeps its distance
pub data SameInserted (more : ℕ) : Result Inserted Refusal → Result Inserted Refusal → Type 0 where
  copied : {n used less next : ℕ} → less + more ≡ used → SameInserted more (Ok (record { copies = n; used = used; next = next })) (Ok (record { copies = n; used = less; next = next }))
  refused : {why : Refusal} → SameInserted more (Err why) (Err why)

-- the answers of a frame's call on d and on e: the same, where a read's row is taken by identities
pub data SameButNumbers (more : ℕ) (d e : Document) : Reply → Reply → Type 0 where
  same_reading : {x y : Checked} {row line : List ℕ} → x ≡ y → ((i : ℕ) → SaysIdentity row d i ↔ SaysIdentity line e i) → SameButNumbers more d e (reading x row) (reading y line)
  same_deleting : {x y : Result ℕ Refusal} → x ≡ y → SameButNumbers more d e (deleting x) (deleting y)
  same_inserting : {x y : Result Inserted Refusal} → SameInserted more x y → SameButNumbers more d e (inserting x) (inserting y)

-- the calls of two runs: at each place the same frame, on documents so far apart, with answers that are the same but for numbers
pub data SameCalls (more : ℕ) : List Called → List Called → Type 0 where
  none : SameCalls more [] []
  step : {k : ℕ} {d e : Document} {x y : Reply} {one other : List Called} → Gap more d e → SameButNumbers more d e x y → SameCalls more one other →
      SameCalls more (called k d x ∷ one) (called k e y ∷ other)

-- two runs that differ in numbers alone: their calls, and their last documents
pub record SameBatch (more : ℕ) (one other : List Called) (last end : Document) : Type 0 where
  pub calls : SameCalls more one other
  pub documents : Gap more last end

-- no call is refused for room
pub record Roomy (calls : List Called) : Type 0 where
  pub free : {i k : ℕ} {d : Document} {x : Reply} → At calls i (called k d x) → NoRoom x → ⊥

-- a call at place i or before it is refused for room
pub record Refuses (calls : List Called) (i : ℕ) : Type 0 where
  pub place : ℕ
  pub soon : place ≤ i
  pub frame : ℕ
  pub met : Document
  pub answer : Reply
  pub at : At calls place (called frame met answer)
  pub short : NoRoom answer
