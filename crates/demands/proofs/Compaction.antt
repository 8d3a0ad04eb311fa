-- A compaction gives room back, changes nothing else by identities, and no answer of a later batch but the numbers of nodes.
use Rattle.std.specs.Prelude.{Result, Ok}
use Rattle.outcomes.specs.declared.updates.Compacted.{Compacted}
use Rattle.tables.specs.declared.refusal.Refusal.{Refusal}
use Prim.Native.Nat.{ℕ, ◌+◌, ◌*◌, ◌≤◌}
use mathlib.Core.Path.{◌≡◌, refl, sym, ◌∙◌, ap}
use mathlib.Core.Bool.{true}
use mathlib.Core.List.{List, [], ◌∷◌}
use mathlib.Core.Logic.{◌↔◌}
use native.Mathlib.Omega.{arith}
use Rattle.tables.specs.Words.{nodes, Bits16}
use Rattle.tables.specs.Patterns.{Pattern}
use Rattle.tables.specs.Documents.{Doc}
use Rattle.tables.specs.Checks.{each, node_check, parent_right, used_right, used_check, shape_check, mark_right, mark_check, document_check, Fine}
use Rattle.tables.proofs.Soundness.{used_facts}
use Rattle.selection.specs.Operations.{copies}
use Rattle.identities.specs.Documents.{Document, document, SoundDocument}
use Rattle.identities.specs.Checks.{identity_right, identity_check, identities_check, whole_check}
use Rattle.identities.specs.Updates.{written, room_of, fits_in}
use Rattle.identities.specs.Showing.{SameIdentitiesBelow}
use Rattle.identities.specs.Compaction.{place, staying, dropped, compacted}
use Rattle.identities.proofs.Checks.{whole_tables, whole_identified, whole_sound}
use Rattle.compaction.proofs.Places.{place_below, place_rises, place_all}
use Rattle.compaction.proofs.Closing.{closed_used, closed_parent, closed_tag, closed_mark, closed_word_behind, closed_mark-behind, closed_rows_length, closed_marks_length}
use Rattle.compaction.proofs.Closing.{compacted_tables, compacted-next, compacted-identity, compacted-behind, compacted-length, compacted_gains}
use Rattle.compaction.proofs.Keeping.{compacted_sound}
use Rattle.compaction.proofs.Checking.{accepted_room, compacted_accepted}
use Rattle.compaction.proofs.Compacting.{compacted-same_below}
use Rattle.compaction.proofs.Twice.{compacted_twice}
use Rattle.compaction.proofs.Fitting.{compacted-fits}
use Rattle.compaction.proofs.Example.{five-compacted, five-dropped}
use Rattle.doc_compact.specs.Compacting.{Compact}
use Rattle.doc_compact.proofs.Laws.{compact_fine, compact_numbers, compact_document}
use Rattle.order.specs.Frames.{At}
use Rattle.batch_check.specs.Batches.{batch_of}
use Rattle.batch_check.proofs.Frames.{accepted_fits}
use Rattle.order_calls.specs.Calls.{Reply, Called, called, Run, NoRoom}
use Rattle.order_calls.proofs.Accepting.{AcceptedDocument, whole_accepted}
use Rattle.order_calls.proofs.Callable.{accepted_callable}
use Rattle.order_compaction.specs.Numbers.{Gap, SameBatch, Roomy, Refuses}
use Rattle.order_compaction.proofs.Between.{runs_same, runs_room, compacted_gap, compacted-document}
use Rattle.demands.specs.Updates.{Compacts, ClosedBy}
use Rattle.demands.specs.Demands.{Start}
use Rattle.demands.specs.Requests.{RoomBack}

-- of a document that meets no refusal
module _ (d : Document) (fine : whole_check d ≡ Fine) where
  closed_by : ClosedBy d (compacted d)
  closed_by =
      let facts = used_facts d.tables (whole_tables d fine) in
      let used : (compacted d).tables.used ≡ staying d.tables = rw (compacted_tables d) (closed_used d.tables) in
      record {
        used = λ v e. rw used (place_below d.tables v e);
        parents = λ v e. rw (compacted_tables d) (closed_parent d.tables v e);
        tags = λ v e. rw (compacted_tables d) (closed_tag d.tables v e);
        identities = compacted-identity d;
        marks = λ v e. rw (compacted_tables d) (closed_mark d.tables (place d.tables v) (place_below d.tables v e));
        only = λ m h. let s = place_all d.tables m (rw used at h) in (s.node, s.here, s.number);
        in_order = λ v w h e. place_rises d.tables v w h e;
        words_behind = λ i h. rw (compacted_tables d) (closed_word_behind d.tables i (rw used at h));
        marks_behind = λ v h. rw (compacted_tables d) (closed_mark-behind d.tables v (rw used at h));
        identities_behind = λ v h. compacted-behind d v (rw used at h);
        lengths = (
          rw (compacted_tables d) (closed_rows_length d.tables (omega (arith, facts.2))),
          rw (compacted_tables d) (closed_marks_length d.tables facts.3),
          compacted-length d (whole_identified d fine).row,
        );
        next = compacted-next d;
      }

  made : Compacts d (compacted d) (dropped d.tables)
  made = record {
    call = record { answered = rw (fine, compacted_tables d, closed_used d.tables) refl; rows = rw fine refl; marks = rw fine refl; ids = rw fine refl };
    next = compacted-next d;
  }

-- of one that is called
module _ {d e : Document} {n : ℕ} (h : Compacts d e n) where
  fine : whole_check d ≡ Fine
  fine = compact_fine d h.call

  is : e ≡ compacted d
  is = ap (λ (next : ℕ). document e.tables.rows e.tables.marks e.tables.used e.ids next) h.next ∙ compact_document d h.call

  number : n ≡ dropped d.tables
  number = (compact_numbers d h.call).1

  closed : ClosedBy d e
  closed = rw is (closed_by d fine)

  gains : (e.tables.used + n ≡ d.tables.used) × (room_of e ≡ room_of d)
  gains = rw (is, number) (compacted_gains d, accepted_room d fine)

  module _ (words : Bits16 d.tables.rows) where
    before : SoundDocument d
    before = whole_sound d fine words

    sound : SoundDocument e × (whole_check e ≡ Fine)
    sound = rw is (compacted_sound before, compacted_accepted d fine before.tables)

    reads : (r : List ℕ) → Pattern r → SameIdentitiesBelow r d e
    reads r pattern = rw is (compacted-same_below before pattern)

    fits : (p x : List ℕ) → (fits_in p x e ≡ true) ↔ (d.tables.used + copies p d.tables * nodes x ≤ room_of d + n)
    unfolding written
    fits p x = rw (is, number) (compacted-fits before fine p x)

    same : compacted e ≡ e
    same = rw is (compacted_twice before)

    none : dropped e.tables ≡ 0
    none = let more : e.tables.used + dropped e.tables ≡ e.tables.used = rw same at (compacted_gains e) in omega (arith, more)

    again : {rows marks ids : List ℕ} {answer : Result Compacted Refusal} → Compact e e.tables.rows e.tables.marks e.ids rows marks ids answer →
        (answer ≡ Ok (record { used = e.tables.used; dropped = 0 })) × (rows ≡ e.tables.rows) × (marks ≡ e.tables.marks) × (ids ≡ e.ids)
    again second =
        let used : staying e.tables ≡ e.tables.used = sym (closed_used e.tables) ∙ ap (λ (c : Doc). c.used) (sym (compacted_tables e)) ∙ ap (λ (c : Document). c.tables.used) same in (
          rw (sound.1, used, none) at second.answered,
          rw (sound.1, same) at second.rows,
          rw (sound.1, same) at second.marks,
          rw (sound.1, same) at second.ids,
        )

-- before a batch
module _ {b : List ℕ} {d e : Document} {n : ℕ} (s : Start b d) (h : Compacts d e n) where
  gap : Gap n d e
  gap = rw (is h, number h) (compacted_gap d s.rows s.document)

  left : AcceptedDocument e
  left = rw (is h) (compacted-document d s.rows s.document)

  batches : {o : List ℕ} {one other : List Called} {last end : Document} → Run (batch_of b) o d one last → Run (batch_of b) o e other end → Roomy one → SameBatch n one other last end
  batches = runs_same (accepted_fits b s.words s.batch) (accepted_callable b s.batch) gap (whole_accepted s.rows s.document) left

  never_short : {o : List ℕ} {one other : List Called} {last end : Document} → Run (batch_of b) o d one last → Run (batch_of b) o e other end →
      {i k : ℕ} {met : Document} {answer : Reply} → At other i (called k met answer) → NoRoom answer → Refuses one i
  never_short = runs_room (accepted_fits b s.words s.batch) (accepted_callable b s.batch) gap (whole_accepted s.rows s.document) left

-- five nodes, of which two are removed
example : Compacts (document (0 ∷ 1 ∷ 0 ∷ 2 ∷ 1 ∷ 3 ∷ 0 ∷ 4 ∷ 3 ∷ 5 ∷ 8 ∷ 9 ∷ []) (0 ∷ 1 ∷ 1 ∷ 0 ∷ 0 ∷ 7 ∷ []) 5 (2 ∷ 3 ∷ 5 ∷ 6 ∷ 7 ∷ 1 ∷ []) 8)
    (document (0 ∷ 1 ∷ 0 ∷ 4 ∷ 1 ∷ 5 ∷ 0 ∷ 4 ∷ 3 ∷ 5 ∷ 8 ∷ 9 ∷ []) (0 ∷ 0 ∷ 0 ∷ 0 ∷ 0 ∷ 7 ∷ []) 3 (2 ∷ 6 ∷ 7 ∷ 6 ∷ 7 ∷ 1 ∷ []) 8) 2
unfolding whole_check identities_check identity_check identity_right document_check shape_check used_check used_right each node_check parent_right mark_check mark_right
example = rw (five-compacted, five-dropped) at (made (document (0 ∷ 1 ∷ 0 ∷ 2 ∷ 1 ∷ 3 ∷ 0 ∷ 4 ∷ 3 ∷ 5 ∷ 8 ∷ 9 ∷ []) (0 ∷ 1 ∷ 1 ∷ 0 ∷ 0 ∷ 7 ∷ []) 5 (2 ∷ 3 ∷ 5 ∷ 6 ∷ 7 ∷ 1 ∷ []) 8) refl)

pub room_back : RoomBack
room_back = record {
  closed = λ d e n h. closed h;
  document = λ d e n h. (is h, number h);
  gains = λ d e n h. gains h;
  fits = λ d e n words h. fits h words;
  sound = λ d e n words h. sound h words;
  reads = λ d e n words h. reads h words;
  twice = λ d e n words h rows marks ids answer. again h words;
  batches = λ b d e n s h o one other last end. batches s h;
  never_short = λ b d e n s h o one other last end run runs i k met answer. never_short s h run runs;
  calls = λ d fine. (compacted d, dropped d.tables, made d fine);
  example = example;
}
