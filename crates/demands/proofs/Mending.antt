-- A mending leaves what the request's words say: the largest sound set, a document that meets no refusal, and a list that turns it back.
use Rattle.std.specs.Prelude.{Result, Ok}
use Rattle.tables.specs.declared.refusal.Refusal.{Refusal}
use Prim.Native.Nat.{ℕ, ◌*◌, ◌≤◌}
use mathlib.Core.Path.{◌≡◌, refl, sym, ◌∙◌}
use mathlib.Core.Bool.{true}
use mathlib.Core.List.{List, [], ◌∷◌}
use mathlib.Core.Logic.{◌↔◌}
use native.Mathlib.Omega.{arith}
use lib.ListN.{length}
use Rattle.tables.specs.Documents.{present}
use Rattle.tables.specs.Checks.{each, node_check, parent_right, used_right, used_check, shape_check, Fine}
use Rattle.tables.proofs.Soundness.{document_shape}
use Rattle.identities.specs.Documents.{Document, document}
use Rattle.identities.specs.Checks.{identity_right, identity_check, identities_check, whole_check}
use Rattle.identities.proofs.Checks.{whole_tables, whole_identities, whole_fine, whole_sound}
use Rattle.mending.specs.Mending.{mended_marks, mended, changes, change_list}
use Rattle.mending.specs.ByWords.{MendedBy}
use Rattle.mending.specs.Sets.{LargestSound}
use Rattle.mending.specs.Undoing.{undone, redone}
use Rattle.mending.proofs.Listing.{changes_most}
use Rattle.mending.proofs.Mended.{mended_accepted}
use Rattle.mending.proofs.Sets.{sound_set, mended_largest}
use Rattle.mending.proofs.Same.{same_none, same_marks, none_list, none_document}
use Rattle.mending.proofs.ByWords.{mended_by, by_one}
use Rattle.mending.proofs.Undoing.{turned_back, made_again}
use Rattle.mending.proofs.Example.{four, four_marks, four-changes, four_list}
use Rattle.doc_mend.specs.Promise.{mend_check, Mend}
use Rattle.doc_mend.proofs.Laws.{mend_fine, mend_number, mend_list, mend_marks, fine_shape, fine_identities, fine_room, fine_all}
use Rattle.demands.specs.Updates.{Mends}
use Rattle.demands.specs.Requests.{MarksMended}

-- of one that is called
module _ {d e : Document} {before after : List ℕ} {n : ℕ} (h : Mends d e before after n) where
  fine : mend_check d (length before) ≡ Fine
  fine = mend_fine d h.call

  shape : shape_check d.tables ≡ Fine
  shape = fine_shape d (length before) fine

  number : n ≡ changes d.tables
  number = mend_number d h.call

  list : after ≡ change_list d.tables before
  list = mend_list d h.call

  is : e ≡ mended d
  unfolding mended
  is =
      let parts : document e.tables.rows e.tables.marks e.tables.used e.ids e.next ≡ document d.tables.rows (mended_marks d.tables) d.tables.used d.ids d.next =
      rw (h.rows, h.used, h.ids, h.next, mend_marks d h.call) refl in
      parts

  by_words : MendedBy d e before after n
  by_words = rw (is, number, list) (mended_by d shape before (fine_room d (length before) fine))

  settled : {f : Document} {other : List ℕ} {m : ℕ} → MendedBy d f before other m → (f ≡ e) × (other ≡ after) × (m ≡ n)
  settled {f} {other} {m} by = let one = by_one d f e before other after m n shape by by_words in (one.1, one.2, one.0)

  largest : LargestSound d.tables (λ v. present e.tables v ≡ true)
  unfolding mended
  largest = rw is (mended_largest d.tables shape)

  accepted : whole_check e ≡ Fine
  accepted = rw is (mended_accepted d shape (fine_identities d (length before) fine))

  back : undone after n e.tables.marks ≡ d.tables.marks
  back = rw (list, number, mend_marks d h.call) (turned_back d.tables shape before)

  again : redone after n d.tables.marks ≡ e.tables.marks
  again = rw (list, number, mend_marks d h.call) (made_again d.tables shape before)

  fits : (words : ℕ) → (mend_check d words ≡ Fine) ↔ (3 * n ≤ words)
  fits words = rw number ((λ e. fine_room d words e), (λ room. fine_all d words shape (fine_identities d (length before) fine) room))

  -- nothing listed: there was nothing to mend
  none : n ≡ 0 → whole_check d ≡ Fine
  none z = whole_fine d (none_document d.tables shape (sym number ∙ z)) (fine_identities d (length before) fine)

-- of a document that meets no refusal
module _ (d : Document) (right : whole_check d ≡ Fine) where
  unchanged : changes d.tables ≡ 0
  unchanged = same_none d.tables (whole_tables d right)

  asked : (words : ℕ) → mend_check d words ≡ Fine
  asked words = fine_all d words (document_shape d.tables (whole_tables d right)) (whole_identities d right) (rw unchanged (omega arith))

  same : {before after marks : List ℕ} {answer : Result ℕ Refusal} → Mend d d.tables.marks before marks after answer → (answer ≡ Ok 0) × (marks ≡ d.tables.marks) × (after ≡ before)
  same {before} call = (
    rw (asked (length before), unchanged) at call.answered,
    (rw (asked (length before)) at call.marks) ∙ same_marks d.tables (whole_tables d right),
    (rw (asked (length before)) at call.list) ∙ none_list d.tables unchanged before,
  )

-- of one whose list has room
module _ (d : Document) (shape : shape_check d.tables ≡ Fine) (identified : identities_check d.ids d.tables.used d.next ≡ Fine) (before : List ℕ) (room : 3 * changes d.tables ≤ length before) where
  made : Mends d (mended d) before (change_list d.tables before) (changes d.tables)
  unfolding mended
  made =
      let fits : mend_check d (length before) ≡ Fine = fine_all d (length before) shape identified room in
      record { call = record { answered = rw fits refl; marks = rw fits refl; list = rw fits refl }; rows = refl; used = refl; ids = refl; next = refl }

example : Mends (document (0 ∷ 1 ∷ 0 ∷ 2 ∷ 1 ∷ 3 ∷ 0 ∷ 4 ∷ []) (255 ∷ 2 ∷ 0 ∷ 0 ∷ 7 ∷ []) 4 (2 ∷ 3 ∷ 5 ∷ 6 ∷ []) 8)
    (document (0 ∷ 1 ∷ 0 ∷ 2 ∷ 1 ∷ 3 ∷ 0 ∷ 4 ∷ []) (0 ∷ 1 ∷ 1 ∷ 0 ∷ 7 ∷ []) 4 (2 ∷ 3 ∷ 5 ∷ 6 ∷ []) 8) (9 ∷ 9 ∷ 9 ∷ 9 ∷ 9 ∷ 9 ∷ 9 ∷ 9 ∷ 9 ∷ 9 ∷ [])
    (0 ∷ 255 ∷ 0 ∷ 1 ∷ 2 ∷ 1 ∷ 2 ∷ 0 ∷ 1 ∷ 9 ∷ []) 3
unfolding mended identities_check identity_check identity_right shape_check used_check used_right each node_check parent_right
example =
    rw (four_marks, four-changes, four_list 9 9 9 9 9 9 9 9 9 (9 ∷ [])) at
    (made (document four.rows four.marks 4 (2 ∷ 3 ∷ 5 ∷ 6 ∷ []) 8) refl refl (9 ∷ 9 ∷ 9 ∷ 9 ∷ 9 ∷ 9 ∷ 9 ∷ 9 ∷ 9 ∷ 9 ∷ []) (rw four-changes (omega arith)))

pub marks_mended : MarksMended
marks_mended = record {
  by_words = λ d e before after n h. by_words h;
  settled = λ d e f before after other n m h. settled h;
  largest = λ d e before after n h. largest h;
  sets = λ d words shape. sound_set d shape words;
  accepted = λ d e before after n h. accepted h;
  sound = λ d e before after n words h. whole_sound e (accepted h) (rw h.rows words);
  same = λ d right before after marks answer. same d right;
  none = λ d e before after h. none h refl;
  twice = λ d e before after n h before' after' marks answer. same e (accepted h);
  back = λ d e before after n h. back h;
  again = λ d e before after n h. again h;
  fits = λ d e before after n h words. fits h words;
  most = λ d e before after n h. rw (number h) (changes_most d.tables);
  calls = λ d shape identified before room. (mended d, change_list d.tables before, changes d.tables, made d shape identified before (omega (arith, room, changes_most d.tables)));
  example = example;
}
