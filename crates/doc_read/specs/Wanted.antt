-- Inside: reading a document at wanted steps: at which nodes one of them stands, and the row that says so.
use Rattle.std.specs.Prelude.{ℕ, ◌≡◌, Bool, false, ◌&&◌, cond, List, ◌++◌, eqb, length, drop, get_or}
use Rattle.tables.specs.Words.{steps}
use Rattle.tables.specs.Documents.{Doc, present}
use Rattle.tables.specs.Checks.{where_fine, Checked}
use Rattle.selection.specs.Lists.{tab, somewhere}
use Rattle.selection.specs.Ways.{up, run}
use Rattle.check_read.specs.Readable.{read_tables_check}

-- step i is wanted: its byte is 1
unfoldable pub wants : List ℕ → ℕ → Bool
wants wanted i = eqb (get_or wanted i 0) 1

-- v is present, and a wanted step stands there: the steps up to it are placed on the way from the root to v, and it is on v itself, or on a node
-- above v where the next axis is descendant; of the last step that is selection
unfoldable pub stands_at : List ℕ → List ℕ → Doc → ℕ → Bool
stands_at p wanted d v = present d v && somewhere (λ i. wants wanted i && run p false i (up d.rows v)) (steps p)

-- the row: one byte a used node, 1 if a wanted step stands there, else 0; later bytes stay
unfoldable pub wanted_row : List ℕ → List ℕ → Doc → List ℕ → List ℕ
wanted_row p wanted d row = tab (λ v. cond (stands_at p wanted d v) 1 0) d.used ++ drop d.used row

-- the answer and the row of a reading at wanted steps: a read's answer; a refusal changes nothing
pub record ReadAt (p : List ℕ) (table : ℕ) (d : Doc) (wanted before after : List ℕ) (answer : Checked) : Type 0 where
  pub answered : answer ≡ read_tables_check p table d (length before)
  pub row : after ≡ where_fine answer (wanted_row p wanted d before) before
