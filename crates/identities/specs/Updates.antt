-- Delete and insert on a document with identities. A delete leaves every identity; an insert gives its copies the next ones in the order written.
use Rattle.std.specs.Prelude.{ℕ, ◌+◌, ◌*◌, min, Bool, ◌&&◌, cond, List, ◌++◌, leb, length, drop}
use Rattle.tables.specs.Limits.{identity_limit}
use Rattle.tables.specs.Words.{nodes}
use Rattle.tables.specs.Documents.{Doc, doc, capacity}
use Rattle.selection.specs.Lists.{tab, front}
use Rattle.selection.specs.Operations.{deleted, inserted, copies}
use Rattle.conflict.specs.Conflict.{Update, delete, insert}
use Rattle.identities.specs.Documents.{Document}

-- a delete
unfoldable pub deleted_in : List ℕ → Document → Document
deleted_in p d = record { tables = deleted p d.tables; ids = d.ids; next = d.next }

-- how many nodes an insert of x at p writes: copies times nodes
unfoldable pub written : List ℕ → List ℕ → Doc → ℕ
written p x d = copies p d * nodes x

-- n identities, from the next one on, for the nodes behind the used ones; all before and behind as it was
unfoldable pub given : List ℕ → ℕ → ℕ → ℕ → List ℕ
given ids used n next = front used ids ++ tab (λ k. next + k) n ++ drop (used + n) ids

-- an insert
unfoldable pub inserted_in : List ℕ → List ℕ → Document → Document
inserted_in p x d =
    record {
      tables = inserted p x d.tables;
      ids = given d.ids d.tables.used (written p x d.tables) d.next;
      next = d.next + written p x d.tables;
    }

-- the document after an update, whatever its size
abbrev pub after_in : Update → Document → Document
after_in (delete p) d = deleted_in p d
after_in (insert p x) d = inserted_in p x d

-- there are identities enough: next plus copies × nodes does not pass 4,294,967,295
unfoldable pub nameable : List ℕ → List ℕ → Document → Bool
nameable p x d = leb (d.next + written p x d.tables) identity_limit

-- the most nodes that a document has room for: the least of 4,096, half the table's words, the marks and the identity row's length
abbrev pub room_of : Document → ℕ
room_of d = min (capacity (length d.tables.rows) (length d.tables.marks)) (length d.ids)

-- there is room: used + copies × nodes does not pass it
unfoldable pub fits_in : List ℕ → List ℕ → Document → Bool
fits_in p x d = leb (d.tables.used + written p x d.tables) (room_of d)

-- an insert into a document: nothing changes where there are too few identities or is no room
unfoldable pub stored_in : List ℕ → List ℕ → Document → Document
stored_in p x d = cond (nameable p x d && fits_in p x d) (inserted_in p x d) d
