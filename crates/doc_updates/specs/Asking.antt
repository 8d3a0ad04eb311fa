-- Inside: what the inside of an update asks and knows: its checks, and once they are fine a row with 1 at the nodes that the pattern selects, made once.
use Rattle.std.specs.Prelude.{ℕ, ◌<◌, ◌≡◌, Bool, cond, List, eqb, get_or}
use Rattle.tables.specs.Limits.{step_limit, tree_limit}
use Rattle.tables.specs.Documents.{Doc}
use Rattle.tables.specs.Checks.{◌then◌, document_check, pattern_check, tree_check, Checked, Fine}
use Rattle.selection.specs.Ways.{selected}
use Rattle.selection.specs.Operations.{read_row}

-- the row has 1 at v
unfoldable pub chosen : List ℕ → ℕ → Bool
chosen row v = eqb (get_or row v 0) 1

-- the row has 1 at the nodes that p selects, 0 at the other used ones
abbrev pub Chosen : List ℕ → Doc → List ℕ → Type 0
Chosen p d row = (v : ℕ) → v < d.used → get_or row v 0 ≡ cond (selected p d v) 1 0

-- an insert's checks before its room: the document, then the pattern, then the inserted tree
abbrev pub tables_check : List ℕ → List ℕ → Doc → Checked
tables_check p x d = document_check d then pattern_check p step_limit 2 then tree_check x tree_limit 3

-- the answer of checks, and the row of a read where they are fine
pub record Asked (check : Checked) (p : List ℕ) (d : Doc) (before after : List ℕ) (answer : Checked) : Type 0 where
  pub answered : answer ≡ check
  pub row : answer ≡ Fine → after ≡ read_row p d before
