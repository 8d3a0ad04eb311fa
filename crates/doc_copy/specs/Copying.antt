-- Inside: one copy of a table x into a document, for every x: its words are those of a graft, as 16 bits hold them. Of a tree they are those of the graft.
use Rattle.std.specs.Prelude.{ℕ, ◌+◌, ◌*◌, ◌%◌, ◌≤◌, Bool, cond, List, map, leb, length}
use Rattle.tables.specs.Limits.{used_limit, word_limit}
use Rattle.tables.specs.Words.{nodes}
use Rattle.tables.specs.Documents.{Doc, doc, capacity}
use Rattle.selection.specs.Operations.{graft}

-- numbers as words hold them
unfoldable pub held : List ℕ → List ℕ
held l = map (λ w. w % word_limit) l

-- one copy more fits: the used count stays within the least of 4,096, half the table's words and the marks
unfoldable pub fitting : List ℕ → Doc → Bool
fitting x d = leb (d.used + nodes x) (capacity (length d.rows) (length d.marks))

-- the document with the copy; the same document where it does not fit
unfoldable pub copied : List ℕ → ℕ → Doc → Doc
copied x q d = cond (fitting x d) (doc (held (graft x q d).rows) (graft x q d).marks (graft x q d).used) d

-- the free words hold a copy, whose parents do not wrap a machine number
pub record Copyable (x : List ℕ) (base : ℕ) (free : List ℕ) : Type 0 where
  pub long : 2 * nodes x ≤ length free
  pub limit : base ≤ used_limit
