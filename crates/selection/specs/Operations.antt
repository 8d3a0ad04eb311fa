-- Read, delete and insert on the tables of a document, as functions of lists.
use Rattle.std.specs.Prelude.{ℕ, zero, suc, ◌+◌, ◌*◌, Bool, false, ◌&&◌, ◌||◌, cond, List, [], ◌∷◌, ◌++◌, eqb, leb, length, drop, replicate}
use Rattle.tables.specs.Words.{nodes, parent, tag}
use Rattle.tables.specs.Documents.{Doc, doc, mark, present, capacity}
use Rattle.selection.specs.Lists.{tab, front, rising, count}
use Rattle.selection.specs.Ways.{up, sel, selected}

-- a read's row: one byte a used node, 1 if selected, else 0; later bytes stay
unfoldable pub read_row : List ℕ → Doc → List ℕ → List ℕ
read_row p d row = tab (λ v. cond (selected p d v) 1 0) d.used ++ drop d.used row

-- selected at the end of this way or somewhere above
unfoldable pub hits : List ℕ → List ℕ → Bool
hits p [] = false
hits p (l ∷ w) = sel p (l ∷ w) || hits p w

-- newly removed by a delete: present, and selected or below a selected node
unfoldable pub struck : List ℕ → Doc → ℕ → Bool
struck p d v = present d v && hits p (up d.rows v)

-- a delete: its marks, the tree table and the used count as they were; and how many it newly removed
unfoldable pub deleted : List ℕ → Doc → Doc
deleted p d = doc d.rows (tab (λ v. cond (struck p d v) 1 (mark d v)) d.used ++ drop d.used d.marks) d.used

unfoldable pub removed : List ℕ → Doc → ℕ
removed p d = count (struck p d) d.used

-- the parent word of node k of x, copied behind `base` nodes under the node q
abbrev pub copied_parent : List ℕ → ℕ → ℕ → ℕ → ℕ
copied_parent x q base k = cond (eqb k 0) q (base + parent x k)

-- the words of the first n nodes of such a copy
unfoldable pub copy_words : List ℕ → ℕ → ℕ → ℕ → List ℕ
copy_words x q base zero = []
copy_words x q base (suc k) = copy_words x q base k ++ (copied_parent x q base k ∷ tag x k ∷ [])

-- one copy of x under q: written behind the nodes already there, with mark 0; all behind it as it was
unfoldable pub graft : List ℕ → ℕ → Doc → Doc
graft x q d =
    doc
    (front (2 * d.used) d.rows ++ copy_words x q d.used (nodes x) ++ drop (2 * (d.used + nodes x)) d.rows)
    (front d.used d.marks ++ replicate (nodes x) 0 ++ drop (d.used + nodes x) d.marks)
    (d.used + nodes x)

-- a copy under each of these nodes, in this order
unfoldable pub grafts : List ℕ → List ℕ → Doc → Doc
grafts x [] d = d
grafts x (q ∷ qs) d = grafts x qs (graft x q d)

-- the update points: the selected nodes in rising number
unfoldable pub points : List ℕ → Doc → List ℕ
points p d = rising (selected p d) d.used

-- an insert: selection is made once, before the first copy; and how many copies it makes
unfoldable pub inserted : List ℕ → List ℕ → Doc → Doc
inserted p x d = grafts x (points p d) d

unfoldable pub copies : List ℕ → Doc → ℕ
copies p d = length (points p d)

-- there is room: used + copies × nodes is at most the least of 4,096, half the table's words and the marks
unfoldable pub fits : List ℕ → List ℕ → Doc → Bool
fits p x d =
    leb (d.used + copies p d * nodes x) (capacity (length d.rows) (length d.marks))

-- an insert into a document: nothing changes where there is no room
unfoldable pub stored : List ℕ → List ℕ → Doc → Doc
stored p x d = cond (fits p x d) (inserted p x d) d
