-- The plain reading: patterns to 8 steps on bare trees to 16 nodes.
use Rattle.tables.specs.Checks.{Checked}
use Rattle.std.specs.Prelude.{ℕ, ◌≡◌, List, length, Ok, Err}
use Rattle.tables.specs.Words.{nodes}
use Rattle.tables.specs.Documents.{bare}
use Rattle.selection.specs.Embeddings.{Selects}
use Rattle.selection.specs.Rows.{Row}
use Rattle.check_plain.specs.Bare.{plain_check}

-- the row after the answer: byte v is 1 exactly if p selects v by embeddings; a refusal changes nothing
abbrev pub RowAfter : List ℕ → List ℕ → List ℕ → List ℕ → Checked → Type 0
RowAfter p t before after (Ok tt) = Row (Selects p (bare t)) (nodes t) before after
RowAfter p t before after (Err r) = after ≡ before

-- what the plain reading promises
pub record PlainRead (p t before after : List ℕ) (answer : Checked) : Type 0 where
  pub answered : answer ≡ plain_check p t (length before)
  pub row : RowAfter p t before after answer
