-- From what the checks and the pass give to the promise of delete.
use Rattle.std.specs.Prelude.{Ok, Err}
use Rattle.tables.specs.Checks.{Checked, Fine}
use Prim.Native.Nat.{ℕ, ◌≤◌}
use mathlib.Core.Path.{◌≡◌, sym, ◌∙◌}
use mathlib.Core.List.{List}
use native.Mathlib.Nat.{le_trans}
use lib.ListN.{length}
use Rattle.tables.specs.Limits.{used_limit}
use Rattle.tables.specs.Documents.{Doc}
use Rattle.tables.specs.declared.refusal.Refusal.{Refusal}
use Rattle.tables.specs.Words.{Bits16}
use Rattle.tables.proofs.Soundness.{used_facts, accepted_document}
use Rattle.doc_updates.specs.Updating.{delete_tables_check, DeleteTables}
use Rattle.doc_updates.specs.Asking.{Asked}
use Rattle.doc_updates.proofs.Asking.{row_chosen, row_bytes}
use Rattle.doc_updates.proofs.Accepted.{delete_tables_document}
use Rattle.doc_delete.specs.Striking.{Strikable, Strikes}

-- a delete that is asked for and fine strikes a sound document
module _ (p : List ℕ) (d : Doc) {before after : List ℕ} {got : Checked} (asked : Asked (delete_tables_check p d) p d before after got) where
  module _ (told : got ≡ Fine) where
    fine : delete_tables_check p d ≡ Fine
    fine = sym asked.answered ∙ told

    pub strikable : Bits16 d.rows → used_limit ≤ length before → Strikable d after
    strikable words long =
        let used = used_facts d (delete_tables_document p d fine) in
        record {
          sound = accepted_document d (delete_tables_document p d fine) words;
          bytes = row_bytes p d before (asked.row told) (le_trans used.1 long);
          marks = used.3;
        }

    pub delete_done : {marks : List ℕ} {n : ℕ} → Strikes d after marks n → DeleteTables p d d.marks marks (Ok n)
    delete_done struck =
        let chosen = row_chosen p d before (asked.row told) in
        record {
          answered = rw (fine, struck.number p chosen);
          marks = rw fine (struck.marks p chosen);
        }

  pub delete_refused : {r : Refusal} → got ≡ Err r → DeleteTables p d d.marks d.marks (Err r)
  delete_refused told =
      let refused : delete_tables_check p d ≡ Err _ = sym asked.answered ∙ told in
      record { answered = rw refused; marks = rw refused }
