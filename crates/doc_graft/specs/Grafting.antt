-- Inside: copies one after another.
use Rattle.std.specs.Prelude.{ℕ, List, [], ◌∷◌}
use Rattle.tables.specs.Documents.{Doc}
use Rattle.doc_copy.specs.Copying.{copied}

-- a copy under each of these nodes, in this order; one that does not fit is left out
unfoldable pub copied_all : List ℕ → List ℕ → Doc → Doc
copied_all x [] d = d
copied_all x (q ∷ qs) d = copied_all x qs (copied x q d)
