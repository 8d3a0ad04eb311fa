-- What a delete and an insert do to a document, by embeddings, and an insert to its identities; what a compaction does; and a mending that is called.
use Rattle.tables.specs.Checks.{Fine}
use Rattle.std.specs.Prelude.{ℕ, ◌+◌, ◌*◌, ◌<◌, ◌≤◌, ◌≡◌, true, List, length, get_or, Ok}
use Rattle.tables.specs.Words.{nodes, parent, tag}
use Rattle.tables.specs.Documents.{Doc, mark, present}
use Rattle.selection.specs.Embeddings.{AtOrBelow, Selects}
use Rattle.identities.specs.Documents.{Document, identity}
use Rattle.identities.specs.Compaction.{place}
use Rattle.doc_compact.specs.Compacting.{Compact}
use Rattle.doc_mend.specs.Promise.{Mend}
use Rattle.doc_updates.specs.Updating.{delete_check}
use Rattle.order.specs.Frames.{At}

-- v is a node that p selects, or lies below one
pub record Covered (p : List ℕ) (d : Doc) (v : ℕ) : Type 0 where
  pub point : ℕ
  pub selects : Selects p d point
  pub under : AtOrBelow d.rows point v

-- e is d with these of its present nodes marked as removed, and nothing else changed
pub record RemovedAt (Gone : ℕ → Type 0) (d e : Doc) : Type 0 where
  pub rows : e.rows ≡ d.rows
  pub used : e.used ≡ d.used
  pub removed : (v : ℕ) → present d v ≡ true → Gone v → mark e v ≡ 1
  pub others : (v : ℕ) → (present d v ≡ true → Gone v → ⊥) → mark e v ≡ mark d v

-- e is d after a delete at p: what p covers is removed
abbrev pub DeletedBy : List ℕ → Doc → Doc → Type 0
DeletedBy p d e = RemovedAt (Covered p d) d e

-- one of these patterns covers v, and a delete at it is accepted on d
pub record CoveredByOne (ps : List (List ℕ)) (d : Document) (v : ℕ) : Type 0 where
  pub place : ℕ
  pub pattern : List ℕ
  pub at : At ps place pattern
  pub accepted : delete_check pattern d ≡ Fine
  pub covers : Covered pattern d.tables v

-- e is d after deletes at all of these, in whatever order: what one of them covers is removed
abbrev pub AllDeletedBy : List (List ℕ) → Document → Doc → Type 0
AllDeletedBy ps d e = RemovedAt (CoveredByOne ps d) d.tables e

-- e is d after an insert of x at p, with n copies
pub record InsertedBy (p x : List ℕ) (d e : Doc) (n : ℕ) : Type 0 where
  -- the update points are exactly the nodes that p selects, in rising number: a copy for each
  pub points : List ℕ
  pub copies : n ≡ length points
  pub rising : (i j : ℕ) → i < j → j < n → get_or points i 0 < get_or points j 0
  pub only : (c : ℕ) → c < n → Selects p d (get_or points c 0)
  pub every : (v : ℕ) → Selects p d v → (c : ℕ) × (c < n) × (get_or points c 0 ≡ v)
  -- the used count grows by copies times nodes
  pub used : e.used ≡ d.used + n * nodes x
  -- the nodes already there stay
  pub old_parents : (v : ℕ) → v < d.used → parent e.rows v ≡ parent d.rows v
  pub old_tags : (v : ℕ) → v < d.used → tag e.rows v ≡ tag d.rows v
  pub old_marks : (v : ℕ) → v < d.used → mark e v ≡ mark d v
  -- copy c stands behind them and behind the copies before it, in the tree's own order: its root under point c, the others as in x, mark 0
  pub roots : (c : ℕ) → c < n → parent e.rows (d.used + c * nodes x) ≡ get_or points c 0
  pub parents : (c k : ℕ) → c < n → 0 < k → k < nodes x → parent e.rows (d.used + c * nodes x + k) ≡ d.used + c * nodes x + parent x k
  pub tags : (c k : ℕ) → c < n → k < nodes x → tag e.rows (d.used + c * nodes x + k) ≡ tag x k
  pub marks : (c k : ℕ) → c < n → k < nodes x → mark e (d.used + c * nodes x + k) ≡ 0
  -- words and marks behind them stay
  pub words_behind : (i : ℕ) → 2 * e.used ≤ i → get_or e.rows i 0 ≡ get_or d.rows i 0
  pub marks_behind : (v : ℕ) → e.used ≤ v → mark e v ≡ mark d v

-- e is d after an insert of x, with n copies, by its identities
pub record NamedBy (x : List ℕ) (d e : Document) (n : ℕ) : Type 0 where
  -- the nodes already there keep theirs
  pub old : (v : ℕ) → v < d.tables.used → identity e v ≡ identity d v
  -- the copies get the next ones in the order written
  pub new : (c k : ℕ) → c < n → k < nodes x → identity e (d.tables.used + c * nodes x + k) ≡ d.next + c * nodes x + k
  -- words behind them stay
  pub behind : (v : ℕ) → e.tables.used ≤ v → identity e v ≡ identity d v
  -- and the next identity grows by copies times nodes
  pub next : e.next ≡ d.next + n * nodes x

-- a compaction of d, called on d's own rows, that is not refused: it leaves e, and tells so many nodes dropped
pub record Compacts (d e : Document) (dropped : ℕ) : Type 0 where
  pub call : Compact d d.tables.rows d.tables.marks d.ids e.tables.rows e.tables.marks e.ids (Ok (record { used = e.tables.used; dropped = dropped }))
  pub next : e.next ≡ d.next

-- e is d closed up: place v, the new number of node v, is how many present nodes stood before it
pub record ClosedBy (d e : Document) : Type 0 where
  -- each present node stands at its new number, with its parent corrected, its label, its identity and mark 0
  pub used : (v : ℕ) → present d.tables v ≡ true → place d.tables v < e.tables.used
  pub parents : (v : ℕ) → present d.tables v ≡ true → parent e.tables.rows (place d.tables v) ≡ place d.tables (parent d.tables.rows v)
  pub tags : (v : ℕ) → present d.tables v ≡ true → tag e.tables.rows (place d.tables v) ≡ tag d.tables.rows v
  pub identities : (v : ℕ) → present d.tables v ≡ true → identity e (place d.tables v) ≡ identity d v
  pub marks : (v : ℕ) → present d.tables v ≡ true → mark e.tables (place d.tables v) ≡ 0
  -- every used node is one of these, and they are in their order
  pub only : (m : ℕ) → m < e.tables.used → (v : ℕ) × (present d.tables v ≡ true) × (place d.tables v ≡ m)
  pub in_order : (v w : ℕ) → v < w → present d.tables v ≡ true → place d.tables v < place d.tables w
  -- words, marks and identities behind the new used count stay, and so do the rows' lengths and the next identity
  pub words_behind : (i : ℕ) → 2 * e.tables.used ≤ i → get_or e.tables.rows i 0 ≡ get_or d.tables.rows i 0
  pub marks_behind : (v : ℕ) → e.tables.used ≤ v → mark e.tables v ≡ mark d.tables v
  pub identities_behind : (v : ℕ) → e.tables.used ≤ v → identity e v ≡ identity d v
  pub lengths : (length e.tables.rows ≡ length d.tables.rows) × (length e.tables.marks ≡ length d.tables.marks) × (length e.ids ≡ length d.ids)
  pub next : e.next ≡ d.next

-- a mending of d, called on d's own marks, that is not refused: it leaves e, with n entries in the list
pub record Mends (d e : Document) (before after : List ℕ) (n : ℕ) : Type 0 where
  pub call : Mend d d.tables.marks before e.tables.marks after (Ok n)
  pub rows : e.tables.rows ≡ d.tables.rows
  pub used : e.tables.used ≡ d.tables.used
  pub ids : e.ids ≡ d.ids
  pub next : e.next ≡ d.next
