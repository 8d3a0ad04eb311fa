-- Reading a document: what it answers, and the row that it writes.
use Rattle.std.specs.Prelude.{ℕ, ◌≡◌, List, length}
use Rattle.tables.specs.Documents.{Doc}
use Rattle.tables.specs.Checks.{where_fine, Checked}
use Rattle.selection.specs.Operations.{read_row}
use Rattle.identities.specs.Documents.{Document}
use Rattle.check_read.specs.Readable.{read_check, read_tables_check}

-- the answer and the row of a read: one byte a used node, 1 if selected, else 0; later bytes stay, and a refusal changes nothing
pub record Read (p : List ℕ) (d : Document) (before after : List ℕ) (answer : Checked) : Type 0 where
  pub answered : answer ≡ read_check p d (length before)
  pub row : after ≡ where_fine answer (read_row p d.tables before) before

-- Inside: the same for tables without identities, the pattern's table at fault named by the caller.
pub record ReadTables (p : List ℕ) (table : ℕ) (d : Doc) (before after : List ℕ) (answer : Checked) : Type 0 where
  pub answered : answer ≡ read_tables_check p table d (length before)
  pub row : after ≡ where_fine answer (read_row p d before) before
