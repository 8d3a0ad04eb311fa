-- Documents: a tree table, a row of marks and a used count. A bare tree is a document without marks, all of it used.
use Rattle.std.specs.Prelude.{ℕ, ◌/◌, min, ◌<◌, ◌≤◌, ◌≡◌, Bool, true, ◌&&◌, List, [], eqb, ltb, get_or}
use Rattle.tables.specs.Limits.{word_limit, used_limit}
use Rattle.tables.specs.Words.{nodes, parent, tag}

pub record Doc : Type 0 where
  pub rows : List ℕ
  pub marks : List ℕ
  pub used : ℕ

abbrev pub doc : List ℕ → List ℕ → ℕ → Doc
doc t m n = record { rows = t; marks = m; used = n }

abbrev pub bare : List ℕ → Doc
bare t = doc t [] (nodes t)

-- the most nodes that a document of so many words and marks has room for: the least of 4,096, half the words and the marks
abbrev pub capacity : ℕ → ℕ → ℕ
capacity words marks = min used_limit (min (words / 2) marks)

-- mark 0 is present, 1 is removed; where no mark stands, the node is present
abbrev pub mark : Doc → ℕ → ℕ
mark d v = get_or d.marks v 0

-- a used node that is not removed
abbrev pub present : Doc → ℕ → Bool
present d v = ltb v d.used && eqb (mark d v) 0

-- What holds of a document that meets no refusal 4, 5 or 12, and of a tree that meets no refusal 1, 4 or 5. It is wider than document 01's word: a document
-- of any size is meant, with or without marks, and a mark over 1 means removed too, so that every law is stated once for documents and for trees.
pub record Sound (d : Doc) : Type 0 where
  -- the table holds every used node
  pub room : d.used ≤ nodes d.rows
  -- the root is present, and its parent word is 0
  pub root : present d 0 ≡ true
  pub top : parent d.rows 0 ≡ 0
  -- every other parent is less than the node's own number
  pub parents : (v : ℕ) → 0 < v → v < d.used → parent d.rows v < v
  -- labels are 1 to 65,535
  pub named : (v : ℕ) → v < d.used → 0 < tag d.rows v
  pub labels : (v : ℕ) → v < d.used → tag d.rows v < word_limit
  -- a node under a removed node is removed
  pub closed : (v : ℕ) → 0 < v → present d v ≡ true → present d (parent d.rows v) ≡ true
