-- Documents with identities: the tables of a document, a row with an identity for each used node, and the next identity to give.
use Rattle.std.specs.Prelude.{ℕ, ◌<◌, ◌≤◌, List, length, get_or}
use Rattle.tables.specs.Documents.{Doc, doc, Sound}

pub record Document : Type 0 where
  pub tables : Doc
  pub ids : List ℕ
  pub next : ℕ

abbrev pub document : List ℕ → List ℕ → ℕ → List ℕ → ℕ → Document
document t m n ids next = record { tables = doc t m n; ids = ids; next = next }

-- the identity of node v
abbrev pub identity : Document → ℕ → ℕ
identity d v = get_or d.ids v 0

-- What holds of the identities of a document that meets no refusal 12 for them.
pub record Identified (d : Document) : Type 0 where
  -- each used node has one
  pub row : d.tables.used ≤ length d.ids
  -- they rise strictly over the used nodes
  pub rising : (v w : ℕ) → v < w → w < d.tables.used → identity d v < identity d w
  -- the next identity is greater than all of them
  pub below : (v : ℕ) → v < d.tables.used → identity d v < d.next

-- a sound document: its tables are, and its identities are right
pub record SoundDocument (d : Document) : Type 0 where
  pub tables : Sound d.tables
  pub identities : Identified d
