-- A batch run call by call: each frame is one call of Read, Delete or Insert, by its promise, on the document that the call before it left.
use Rattle.outcomes.specs.declared.updates.Inserted.{Inserted}
use Rattle.tables.specs.declared.refusal.Refusal.{Refusal}
use Rattle.std.specs.Prelude.{ℕ, ◌<◌, ◌≤◌, ◌≡◌, List, [], ◌∷◌, ◌⊎◌, ◌↔◌, length, get_or, Result, Ok, Err}
use Rattle.tables.specs.Limits.{used_limit}
use Rattle.tables.specs.Checks.{refuse, Checked, Fine}
use Rattle.identities.specs.Documents.{Document, document, identity}
use Rattle.doc_read.specs.Reading.{Read}
use Rattle.doc_updates.specs.Updating.{delete_refusal, Delete, Insert}
use Rattle.conflict.specs.Conflict.{Update, delete, insert}
use Rattle.order.specs.Frames.{Frame, read, update, At}

-- what a call answered; of a read, also the row that it left
pub data Reply : Type 0 where
  reading : Checked → List ℕ → Reply
  deleting : Result ℕ Refusal → Reply
  inserting : Result Inserted Refusal → Reply

-- the used count after an insert: the one that it tells, or, where it is refused, the one before
abbrev pub used_after : Result Inserted Refusal → ℕ → ℕ
used_after (Ok made) before = made.used
used_after (Err why) before = before

-- and the next identity likewise
abbrev pub next_after : Result Inserted Refusal → ℕ → ℕ
next_after (Ok made) before = made.next
next_after (Err why) before = before

-- a frame's call on document d, what it answers, and the document that it leaves
pub data Call : Frame (List ℕ) Update → Document → Reply → Document → Type 0 where
  -- a read has an answer row for 4,096 nodes, whatever stands in it, and leaves the document
  reads : {p before row : List ℕ} {d : Document} {answer : Checked} → used_limit ≤ length before
      → Read p d before row answer → Call (read p) d (reading answer row) d
  -- a delete is lent the marks, and nothing else that could change
  deletes : {p marks : List ℕ} {d : Document} {answer : Result ℕ Refusal}
      → Delete p d d.tables.marks marks answer
      → Call (update (delete p)) d (deleting answer) (document d.tables.rows marks d.tables.used d.ids d.next)
  inserts : {p x rows marks ids : List ℕ} {d : Document} {answer : Result Inserted Refusal}
      → Insert p x d d.tables.rows d.tables.marks d.ids rows marks ids answer
      → Call (update (insert p x)) d (inserting answer) (document rows marks (used_after answer d.tables.used) ids (next_after answer d.next))

-- one call of a run: the frame's number, the document that it met, and what it answered
pub data Called : Type 0 where
  called : ℕ → Document → Reply → Called

-- the frames of a batch run in the order o from document d on: the calls, one after another, and the last document
pub data Run (b : List (Frame (List ℕ) Update)) : List ℕ → Document → List Called → Document → Type 0 where
  over : {d : Document} → Run b [] d [] d
  next : {k : ℕ} {o : List ℕ} {f : Frame (List ℕ) Update} {d e last : Document} {answer : Reply} {calls : List Called}
      → At b k f → Call f d answer e → Run b o e calls last → Run b (k ∷ o) d (called k d answer ∷ calls) last

-- at place i of a run frame k is called
pub record Has (calls : List Called) (i k : ℕ) : Type 0 where
  pub met : Document
  pub answer : Reply
  pub at : At calls i (called k met answer)

-- there is a run in the order o
pub record Runs (b : List (Frame (List ℕ) Update)) (o : List ℕ) (d : Document) : Type 0 where
  pub calls : List Called
  pub last : Document
  pub run : Run b o d calls last

-- the refusal of an answer, fine where it has none
abbrev pub refusal_of : Reply → Checked
refusal_of (reading answer row) = answer
refusal_of (deleting answer) = delete_refusal answer
refusal_of (inserting (Ok made)) = Fine
refusal_of (inserting (Err why)) = Err why

-- refused for room
abbrev pub NoRoom : Reply → Type 0
NoRoom answer = refusal_of answer ≡ refuse 11 4 0

-- refused for identities
abbrev pub NoIdentities : Reply → Type 0
NoIdentities answer = refusal_of answer ≡ refuse 16 5 0

-- a frame's call is not refused, but for an insert that has too few identities or no room
abbrev pub Works : Frame (List ℕ) Update → Reply → Type 0
Works (read p) answer = refusal_of answer ≡ Fine
Works (update (delete p)) answer = refusal_of answer ≡ Fine
Works (update (insert p x)) answer = (refusal_of answer ≡ Fine) ⊎ (NoIdentities answer ⊎ NoRoom answer)

-- a row says of a node of d that it is in the read's set
pub record Says (row : List ℕ) (d : Document) (v : ℕ) : Type 0 where
  pub used : v < d.tables.used
  pub byte : get_or row v 0 ≡ 1

-- and of an identity: it does so of a node of that identity
pub record SaysIdentity (row : List ℕ) (d : Document) (i : ℕ) : Type 0 where
  pub node : ℕ
  pub says : Says row d node
  pub named : identity d node ≡ i

-- two runs of a batch give the same, where Alike says when two documents show the same to a read: calls and last document of one, and of the other
pub record SameRuns (Alike : List ℕ → Document → Document → Type 0) (b : List (Frame (List ℕ) Update)) (one : List Called) (last : Document) (other : List Called)
    (end : Document) : Type 0 where
  -- each read's row says the same of every identity
  pub reads : {k i j : ℕ} {r row line : List ℕ} {d e : Document} {x y : Checked} → At b k (read r)
      → At one i (called k d (reading x row)) → At other j (called k e (reading y line)) → (v : ℕ) → SaysIdentity row d v ↔ SaysIdentity line e v
  -- and of every node number, since a batch contains no compaction
  pub numbers : {k i j : ℕ} {r row line : List ℕ} {d e : Document} {x y : Checked} → At b k (read r)
      → At one i (called k d (reading x row)) → At other j (called k e (reading y line)) → (v : ℕ) → Says row d v ↔ Says line e v
  -- and the documents that it met show it the same
  pub shows : {k i j : ℕ} {r : List ℕ} {d e : Document} {x y : Reply} → At b k (read r)
      → At one i (called k d x) → At other j (called k e y) → Alike r d e
  -- each update answers the same
  pub updates : {k i j : ℕ} {u : Update} {d e : Document} {x y : Reply} → At b k (update u) → At one i (called k d x) → At other j (called k e y) → x ≡ y
  -- so the same inserts are refused for room, and the same for identities
  pub refusals : {k i j : ℕ} {u : Update} {d e : Document} {x y : Reply} → At b k (update u) → At one i (called k d x) → At other j (called k e y) → NoRoom x ↔ NoRoom y
  pub nameless : {k i j : ℕ} {u : Update} {d e : Document} {x y : Reply} → At b k (update u) → At one i (called k d x) → At other j (called k e y) → NoIdentities x ↔ NoIdentities y
  -- the last document is the same: its tables, its used count, its identities and the next one
  pub tables : last ≡ end
