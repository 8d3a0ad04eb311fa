-- Mending: the root's mark becomes 0; any other mark above 1 becomes 1; then each present node under a removed one becomes removed.
use Rattle.std.specs.Prelude.{ℕ, zero, suc, ◌*◌, min, Bool, false, ◌||◌, not, cond, List, [], ◌∷◌, ◌++◌, eqb, get_or, drop}
use Rattle.tables.specs.Words.{parent}
use Rattle.tables.specs.Documents.{Doc, doc, mark}
use Rattle.selection.specs.Lists.{tab, count}
use Rattle.identities.specs.Documents.{Document}

-- the root's mark becomes 0, any other mark above 1 becomes 1
unfoldable pub evened : List ℕ → ℕ → ℕ
evened m v = cond (eqb v 0) 0 (min (get_or m v 0) 1)

-- then v is removed, or under a removed node: of the nodes from v up to the root, at most n of them, one is removed
unfoldable pub gone_up : List ℕ → List ℕ → ℕ → ℕ → Bool
gone_up t m zero v = false
gone_up t m (suc n) v = eqb (evened m v) 1 || cond (eqb v 0) false (gone_up t m n (parent t v))

-- the mark of v, mended: parents fall, so a node has no more nodes above it than its number
unfoldable pub mended_mark : List ℕ → List ℕ → ℕ → ℕ
mended_mark t m v = cond (gone_up t m (suc v) v) 1 0

-- the marks of a document, mended; those behind the used count stay
unfoldable pub mended_marks : Doc → List ℕ
mended_marks d = tab (mended_mark d.rows d.marks) d.used ++ drop d.used d.marks

-- the document, mended: no parent, label or identity is touched
unfoldable pub mended : Document → Document
mended d =
    record {
      tables = doc d.tables.rows (mended_marks d.tables) d.tables.used;
      ids = d.ids;
      next = d.next;
    }

-- the mark of v ends up different; and how many marks of the used nodes do
unfoldable pub changed : Doc → ℕ → Bool
changed d v = not (eqb (mark d v) (mended_mark d.rows d.marks v))

unfoldable pub changes : Doc → ℕ
changes d = count (changed d) d.used

-- three words for each such mark of the first n nodes, in node order: node number, old mark, new mark
unfoldable pub change_words : Doc → ℕ → List ℕ
change_words d zero = []
change_words d (suc v) =
    cond (changed d v) (change_words d v ++ (v ∷ mark d v ∷ mended_mark d.rows d.marks v ∷ [])) (change_words d v)

-- the list after a mending; words behind these stay
unfoldable pub change_list : Doc → List ℕ → List ℕ
change_list d list = change_words d d.used ++ drop (3 * changes d) list
