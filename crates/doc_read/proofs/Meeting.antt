-- What a fine check of a read says, and that its answer and its row are those of the definition.
use Rattle.std.specs.Prelude.{Ok, Err}
use Prim.Native.Nat.{ℕ, ◌<◌, ◌≤◌}
use mathlib.Core.Path.{◌≡◌, refl, sym, ◌∙◌}
use mathlib.Core.List.{List}
use lib.ListN.{length}
use Rattle.tables.specs.Limits.{step_limit}
use Rattle.tables.specs.Words.{steps}
use Rattle.tables.specs.Documents.{Doc}
use Rattle.tables.specs.Checks.{◌then◌, document_check, pattern_check, output_check, Checked, Fine}
use Rattle.tables.specs.declared.refusal.Refusal.{Refusal}
use Rattle.tables.proofs.Accepted.{then_first, then_second, output_room}
use Rattle.tables.proofs.Soundness.{accepted_pattern, accepted_steps, node_falls, document-nodes, used_facts}
use Rattle.check_read.specs.Readable.{read_tables_check}
use Rattle.doc_read.specs.Reading.{ReadTables}
use Rattle.doc_read.specs.Wanted.{wanted_row, ReadAt}
use Rattle.doc_read.specs.Standing.{LastWanted, Readable}
use Rattle.doc_read.proofs.Finding.{last_row}

module _ (p : List ℕ) (table : ℕ) (d : Doc) (bytes : ℕ) (e : read_tables_check p table d bytes ≡ Fine) where
  pub fine_document : document_check d ≡ Fine
  unfolding read_tables_check
  fine_document =
      then_first (document_check d) (pattern_check p step_limit table then output_check d.used bytes) e

  fine_rest : (pattern_check p step_limit table then output_check d.used bytes) ≡ Fine
  unfolding read_tables_check
  fine_rest =
      then_second (document_check d) (pattern_check p step_limit table then output_check d.used bytes) e

  pub fine_pattern : pattern_check p step_limit table ≡ Fine
  fine_pattern = then_first (pattern_check p step_limit table) (output_check d.used bytes) fine_rest

  pub fine_room : d.used ≤ bytes
  fine_room = output_room d.used bytes (then_second (pattern_check p step_limit table) (output_check d.used bytes) fine_rest)

module _ (p : List ℕ) (table : ℕ) (d : Doc) (before : List ℕ) {got : Checked} (e : got ≡ read_tables_check p table d (length before)) where
  -- a row that passed the checks can be read into
  pub fine_readable : got ≡ Fine → Readable p d.rows d.marks d.used before
  fine_readable told =
      let fine : read_tables_check p table d (length before) ≡ Fine = sym e ∙ told in
      record {
        some = (accepted_pattern p step_limit table (fine_pattern p table d (length before) fine)).some;
        few = accepted_steps p step_limit table (fine_pattern p table d (length before) fine);
        within = (used_facts d (fine_document p table d (length before) fine)).1;
        words = (used_facts d (fine_document p table d (length before) fine)).2;
        marked = (used_facts d (fine_document p table d (length before) fine)).3;
        long = fine_room p table d (length before) fine;
        parents = node_falls d.rows 5 d.used (document-nodes d (fine_document p table d (length before) fine));
      }

  pub read_fine : got ≡ Fine → (wanted : List ℕ) {after : List ℕ} → after ≡ wanted_row p wanted d before → ReadAt p table d wanted before after Fine
  read_fine told wanted q = record { answered = sym told ∙ e; row = q }

  pub read_refused : {r : Refusal} → got ≡ Err r → (wanted : List ℕ) → ReadAt p table d wanted before before (Err r)
  read_refused told wanted = record { answered = sym told ∙ e; row = refl }

-- what a fine check says of the pattern's steps
module _ (p : List ℕ) (table : ℕ) (d : Doc) (bytes : ℕ) (e : read_tables_check p table d bytes ≡ Fine) where
  pub fine_some : 0 < steps p
  fine_some = (accepted_pattern p step_limit table (fine_pattern p table d bytes e)).some

  pub fine_few : steps p ≤ step_limit
  fine_few = accepted_steps p step_limit table (fine_pattern p table d bytes e)

-- a reading at the last step alone is a read
pub last_read : {p : List ℕ} {table : ℕ} {d : Doc} {wanted before after : List ℕ} (answer : Checked) → LastWanted p wanted → ReadAt p table d wanted before after answer → ReadTables p table d before after answer
last_read {p} {table} {d} {before = before} (Ok tt) asks r =
    record {
      answered = r.answered;
      row =
          r.row
          ∙ last_row p (fine_some p table d (length before) (sym r.answered)) (fine_few p table d (length before) (sym r.answered)) asks d before;
    }
last_read (Err x) asks r = record { answered = r.answered; row = r.row }
