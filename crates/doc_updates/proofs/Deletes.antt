-- What holds after a delete: of one that was refused, and of one that was accepted. The laws are those of its tables; a delete on a document is one on them.
use Rattle.std.specs.Prelude.{Result, Ok, Err}
use Prim.Native.Nat.{ℕ, ◌+◌, ◌<◌, ◌≤◌}
use mathlib.Core.Path.{◌≡◌, refl, sym, ◌∙◌, ap}
use mathlib.Core.Bool.{Bool, true, false, ◌&&◌, not, and-false, and-true, false≢true}
use mathlib.Core.List.{List}
use lib.ListN.{length}
use Rattle.tables.specs.Words.{Bits16}
use Rattle.tables.specs.Documents.{Doc, doc, mark, present, Sound}
use Rattle.tables.specs.declared.refusal.Refusal.{Refusal}
use Rattle.tables.specs.Checks.{document_check, Fine}
use Rattle.tables.proofs.Soundness.{used_facts, accepted_document}
use Rattle.selection.specs.Lists.{count}
use Rattle.selection.specs.Ways.{up, selected}
use Rattle.selection.specs.Operations.{hits, deleted, removed}
use Rattle.selection.proofs.Presence.{present_used}
use Rattle.selection.proofs.Runs.{both}
use Rattle.selection.proofs.Up.{way_is}
use Rattle.selection.proofs.Hitting.{Hit, hit_hits, hits_hit}
use Rattle.selection.proofs.Deleting.{present-deleted, deleted_selects, deleted-behind, deleted-length, deleted-count, deleted_sound}
use Rattle.identities.specs.Documents.{Document}
use Rattle.identities.specs.Checks.{whole_check}
use Rattle.identities.proofs.Checks.{whole_identities, whole_right}
use Rattle.doc_updates.specs.Updating.{delete_check, delete_tables_check, Delete, DeleteTables}
use Rattle.doc_updates.proofs.Accepted.{delete_document, delete_tables_document, delete_tables_steps, removed_fine, kept_told}

-- a refused delete changes no mark
pub delete_same : {p : List ℕ} {d : Document} {before after : List ℕ} {r : Refusal} → Delete p d before after (Err r) → after ≡ before
delete_same {p} {d} done = rw (kept_told (delete_check p d) (removed p d.tables) done.answered) at done.marks

module _ {p : List ℕ} {d : Document} {before after : List ℕ} where
  -- where the identities are right, the delete is that of the tables, both ways
  module _ {answer : Result ℕ Refusal} (whole : whole_check d ≡ document_check d.tables) where
    pub delete_tables : DeleteTables p d.tables before after answer → Delete p d before after answer
    unfolding delete_check delete_tables_check
    delete_tables done = record { answered = rw whole done.answered; marks = rw whole done.marks }

    pub tables_delete : Delete p d before after answer → DeleteTables p d.tables before after answer
    unfolding delete_check delete_tables_check
    tables_delete done = record { answered = rw whole at done.answered; marks = rw whole at done.marks }

  -- it is where it works
  pub removed_tables : {n : ℕ} → Delete p d before after (Ok n) → DeleteTables p d.tables before after (Ok n)
  removed_tables done =
      let fine = delete_document p d (removed_fine (delete_check p d) (removed p d.tables) done.answered) in
      tables_delete (whole_right d (whole_identities d fine)) done

-- and where they are wrong it is refused
pub delete_refused_whole : {p : List ℕ} {d : Document} {marks : List ℕ} {why : Refusal} → whole_check d ≡ Err why → Delete p d marks marks (Err why)
unfolding delete_check
delete_refused_whole refused = record { answered = rw refused; marks = rw refused }

module _ (p : List ℕ) (d : Doc) {after : List ℕ} {n : ℕ} (done : DeleteTables p d d.marks after (Ok n)) where
  -- it met no refusal
  pub delete_fine : delete_tables_check p d ≡ Fine
  delete_fine = removed_fine (delete_tables_check p d) (removed p d) done.answered

  number : n ≡ removed p d
  number = let e : Ok n ≡ Ok (removed p d) = rw delete_fine at done.answered in cc

  marks : after ≡ (deleted p d).marks
  marks = rw delete_fine at done.marks

  -- the document after it
  pub delete_doc : doc d.rows after d.used ≡ deleted p d
  unfolding deleted
  delete_doc = rw marks

  -- present before equals present after plus the number that it answers
  pub delete_count : count (present d) d.used ≡ count (present (doc d.rows after d.used)) d.used + n
  delete_count = rw (delete_doc, number) (deleted-count p d)

  -- marks behind the used nodes stay, and so does the length
  pub delete_behind : (v : ℕ) → d.used ≤ v → mark (doc d.rows after d.used) v ≡ mark d v
  delete_behind v h = ap (λ (c : Doc). mark c v) delete_doc ∙ deleted-behind p d v h

  pub delete_length : length after ≡ length d.marks
  delete_length = rw marks (deleted-length p d (used_facts d (delete_tables_document p d delete_fine)).3)

  present-after : (v : ℕ) → present (doc d.rows after d.used) v ≡ (present d v && not (hits p (up d.rows v)))
  present-after v = ap (λ (c : Doc). present c v) delete_doc ∙ present-deleted p d v

  -- no selection changes of a node that stays present
  pub delete_selection : (r : List ℕ) (v : ℕ) → present (doc d.rows after d.used) v ≡ true → selected r (doc d.rows after d.used) v ≡ selected r d v
  delete_selection r v e =
      both (present d v) (not (hits p (up d.rows v))) (sym (present-after v) ∙ e)
      (λ here clear. rw delete_doc (rw (deleted_selects r p d v, clear, and-true)))

  module _ (words : Bits16 d.rows) where
    sound : Sound d
    sound = accepted_document d (delete_tables_document p d delete_fine) words

    -- a sound document stays sound
    pub delete_sound : Sound (doc d.rows after d.used)
    delete_sound = rw delete_doc (deleted_sound p d (delete_tables_steps p d delete_fine) sound)

    -- every selected node and everything below it is removed
    pub delete_removes : (v : ℕ) → v < d.used → Hit p d v → present (doc d.rows after d.used) v ≡ false
    delete_removes v h hit = present-after v ∙ rw (hit_hits p d sound h hit, and-false)

    -- and no other node is
    pub delete_only : (v : ℕ) → present d v ≡ true → present (doc d.rows after d.used) v ≡ false → Hit p d v
    delete_only v e gone =
        hits_hit p d sound (present_used d v e) (way_is sound v (present_used d v e)) e
        (not_false (hits p (up d.rows v)) (rw e at (sym (present-after v) ∙ gone)))
      where
        not_false : (b : Bool) → not b ≡ false → b ≡ true
        not_false true q = refl
        not_false false q = absurd (false≢true (sym q))
