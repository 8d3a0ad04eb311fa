-- What mending does, in the request's words.
use Rattle.std.specs.Prelude.{ℕ, ◌+◌, ◌*◌, ◌<◌, ◌≤◌, ◌≡◌, List, ◌≢◌, length, get_or}
use Rattle.tables.specs.Documents.{Doc, mark}
use Rattle.selection.specs.Embeddings.{AtOrBelow}
use Rattle.identities.specs.Documents.{Document}

-- v has a mark other than 0, or is under a node that has, the root's mark left out
pub record Gone (d : Doc) (v : ℕ) : Type 0 where
  pub node : ℕ
  pub not_root : 0 < node
  pub marked : 0 < mark d node
  pub under : AtOrBelow d.rows node v

-- entry k of a list is of node v: node number, old mark, new mark
pub record Entry (d e : Doc) (list : List ℕ) (k v : ℕ) : Type 0 where
  pub node : get_or list (3 * k) 0 ≡ v
  pub old : get_or list (3 * k + 1) 0 ≡ mark d v
  pub new : get_or list (3 * k + 2) 0 ≡ mark e v

-- e is d, mended, with n entries in the list
pub record MendedBy (d e : Document) (before after : List ℕ) (n : ℕ) : Type 0 where
  -- the root is present; of the others those are removed that had a mark other than 0, and those under them
  pub root : mark e.tables 0 ≡ 0
  pub removed : (v : ℕ) → v < d.tables.used → Gone d.tables v → mark e.tables v ≡ 1
  pub present : (v : ℕ) → v < d.tables.used → (Gone d.tables v → ⊥) → mark e.tables v ≡ 0
  -- each entry is of a mark that ended up different, each such mark has an entry, and they are in node order
  pub only : (k : ℕ) → k < n → (v : ℕ) × (v < d.tables.used) × (mark d.tables v ≢ mark e.tables v) × Entry d.tables e.tables after k v
  pub every : (v : ℕ) → v < d.tables.used → mark d.tables v ≢ mark e.tables v → (k : ℕ) × (k < n) × Entry d.tables e.tables after k v
  pub in_order : (j k : ℕ) → j < k → k < n → get_or after (3 * j) 0 < get_or after (3 * k) 0
  -- the list holds them all, and its words behind them stay
  pub room : 3 * n ≤ length after
  pub behind : (i : ℕ) → 3 * n ≤ i → get_or after i 0 ≡ get_or before i 0
  pub long : length after ≡ length before
  -- no unnamed mark, and no parent, label or identity, is touched
  pub unnamed : (v : ℕ) → ((k : ℕ) → k < n → get_or after (3 * k) 0 ≢ v) → mark e.tables v ≡ mark d.tables v
  pub marks : length e.tables.marks ≡ length d.tables.marks
  pub rows : e.tables.rows ≡ d.tables.rows
  pub used : e.tables.used ≡ d.tables.used
  pub ids : e.ids ≡ d.ids
  pub next : e.next ≡ d.next
