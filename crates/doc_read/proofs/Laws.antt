-- A read is settled by its definition, and its row says which nodes are selected by embeddings.
use Rattle.std.specs.Prelude.{Err}
use Prim.Native.Nat.{ℕ}
use mathlib.Core.Path.{◌≡◌, refl, sym, ◌∙◌, ap}
use mathlib.Core.List.{List}
use lib.ListN.{length}
use Rattle.tables.specs.Limits.{step_limit}
use Rattle.tables.specs.Documents.{Doc}
use Rattle.tables.specs.declared.refusal.Refusal.{Refusal}
use Rattle.tables.specs.Words.{Bits16}
use Rattle.tables.proofs.Soundness.{accepted_pattern, accepted_document}
use Rattle.selection.specs.Embeddings.{Selects}
use Rattle.selection.specs.Rows.{Row}
use Rattle.selection.specs.Operations.{read_row}
use Rattle.selection.proofs.Rows.{read_row_lem}
use Rattle.check_read.specs.Readable.{read_check, read_tables_check}
use Rattle.tables.specs.Checks.{where_fine, document_check, Checked, Fine}
use Rattle.identities.specs.Documents.{Document}
use Rattle.identities.specs.Checks.{whole_check}
use Rattle.doc_read.specs.Reading.{Read, ReadTables}
use Rattle.doc_read.specs.Wanted.{wanted_row, ReadAt}
use Rattle.doc_read.proofs.Meeting.{fine_document, fine_pattern, fine_room}

-- one check and one row to write give one answer and one row
settled : {check x y : Checked} {a b : List ℕ} (new before : List ℕ) → x ≡ check → y ≡ check → a ≡ where_fine x new before → b ≡ where_fine y new before → (a ≡ b) × (x ≡ y)
settled {x = x} {y} new before p q e f =
    let same : x ≡ y = p ∙ sym q in
    (e ∙ ap (λ (z : Checked). where_fine z new before) same ∙ sym f, same)

-- so two reads of the same document give one row and one answer
pub read_one : {p : List ℕ} {d : Document} {before a b : List ℕ} {x y : Checked} → Read p d before a x → Read p d before b y → (a ≡ b) × (x ≡ y)
read_one {p} {d = d} {before} r s = settled (read_row p d.tables before) before r.answered s.answered r.row s.row

-- and two readings at the same wanted steps
pub read_at_one : {p : List ℕ} {table : ℕ} {d : Doc} {wanted before a b : List ℕ} {x y : Checked} → ReadAt p table d wanted before a x → ReadAt p table d wanted before b y → (a ≡ b) × (x ≡ y)
read_at_one {p} {d = d} {wanted} {before} r s = settled (wanted_row p wanted d before) before r.answered s.answered r.row s.row

-- a read that meets no refusal: byte v is 1 exactly if p selects v by embeddings, else 0; later bytes stay
pub read_selects : {p : List ℕ} {table : ℕ} {d : Doc} {before after : List ℕ} → ReadTables p table d before after Fine → Bits16 d.rows → Row (Selects p d) d.used before after
read_selects {p} {table} {d} {before} r words =
    let fine : read_tables_check p table d (length before) ≡ Fine = sym r.answered in
    rw r.row
    (read_row_lem
    (accepted_pattern p step_limit table (fine_pattern p table d (length before) fine))
    (accepted_document d (fine_document p table d (length before) fine) words)
    before
    (fine_room p table d (length before) fine))

-- a read of a document whose identities are right is that of its tables
pub read_tables : {p : List ℕ} {d : Document} {before after : List ℕ} {answer : Checked} → whole_check d ≡ document_check d.tables → ReadTables p 1 d.tables before after answer → Read p d before after answer
unfolding read_check read_tables_check
read_tables whole r = record { answered = rw whole r.answered; row = r.row }

-- and back
pub tables_read : {p : List ℕ} {d : Document} {before after : List ℕ} {answer : Checked} → whole_check d ≡ document_check d.tables → Read p d before after answer → ReadTables p 1 d.tables before after answer
unfolding read_check read_tables_check
tables_read whole r = record { answered = rw whole at r.answered; row = r.row }

-- one that is refused for its document writes nothing
pub read_refused_whole : {p : List ℕ} {d : Document} {row : List ℕ} {why : Refusal} → whole_check d ≡ Err why → Read p d row row (Err why)
unfolding read_check
read_refused_whole refused = record { answered = rw refused; row = refl }
