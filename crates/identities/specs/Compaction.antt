-- A compaction: removed nodes are dropped, the rest is closed up in order, its parents are corrected, and each identity stays with its node.
use Rattle.std.specs.Prelude.{ℕ, zero, suc, ◌*◌, not, cond, List, [], ◌∷◌, ◌++◌, drop}
use Rattle.tables.specs.Words.{parent, tag}
use Rattle.tables.specs.Documents.{Doc, doc, present}
use Rattle.selection.specs.Lists.{tab, count}
use Rattle.identities.specs.Documents.{Document, identity}

-- the number of node v after a compaction: how many present nodes stand before it
unfoldable pub place : Doc → ℕ → ℕ
place d v = count (present d) v

-- how many nodes stay, and how many are dropped
unfoldable pub staying : Doc → ℕ
staying d = place d d.used

unfoldable pub dropped : Doc → ℕ
dropped d = count (λ v. not (present d v)) d.used

-- the words of those of the first n nodes that stay: the new number of the parent, and the label
unfoldable pub staying_words : Doc → ℕ → List ℕ
staying_words d zero = []
staying_words d (suc v) =
    cond (present d v) (staying_words d v ++ (place d (parent d.rows v) ∷ tag d.rows v ∷ [])) (staying_words d v)

-- and their identities
unfoldable pub staying_ids : Document → ℕ → List ℕ
staying_ids d zero = []
staying_ids d (suc v) = cond (present d.tables v) (staying_ids d v ++ (identity d v ∷ [])) (staying_ids d v)

-- the tables after a compaction; in each row all behind the new used count stays
unfoldable pub closed_up : Doc → Doc
closed_up d =
    doc
    (staying_words d d.used ++ drop (2 * staying d) d.rows)
    (tab (λ v. 0) (staying d) ++ drop (staying d) d.marks)
    (staying d)

-- the document after a compaction
unfoldable pub compacted : Document → Document
compacted d =
    record {
      tables = closed_up d.tables;
      ids = staying_ids d d.tables.used ++ drop (staying d.tables) d.ids;
      next = d.next;
    }
