-- One frame called on two documents that differ in the numbers of nodes alone: it answers the same but for these, and leaves such documents.
use Prim.Native.Nat.{ℕ, ◌+◌}
use mathlib.Core.Path.{◌≡◌, refl, sym, ◌∙◌}
use mathlib.Core.Bool.{Bool, true, false, ◌&&◌, cond, false≢true}
use mathlib.Core.List.{List}
use mathlib.Core.Logic.Iff
use mathlib.Core.Logic.{◌⊎◌, inl, inr}
use native.Mathlib.Omega.{arith}
use borrow.Author.Tests.{leb-true, le-leb}
use Rattle.tables.proofs.Accepted.{never}
use Rattle.tables.proofs.Soundness.{used_facts}
use Rattle.selection.specs.Operations.{copies}
use Rattle.selection.proofs.Deleting.{deleted_rows, deleted_used, deleted-length}
use Rattle.selection.proofs.Inserting.{inserted_rows_length, inserted_marks_length}
use Rattle.conflict.specs.Conflict.{Update, insert}
use Rattle.identities.specs.Documents.{Document}
use Rattle.identities.specs.Updates.{deleted_in, written, inserted_in, nameable, room_of, fits_in, stored_in}
use Rattle.identities.proofs.Updates.{deleted_tables, deleted_ids, inserted_tables, inserted_ids_length, used_written, RoomIn, fits_room_in}
use Rattle.compaction.proofs.Alike.{alike_selects}
use Rattle.compaction.proofs.Updating.{same-removed, same-copies, same-written, same-nameable, deleted_alike}
use Rattle.compaction.proofs.Growing.{inserted_alike}
use Rattle.doc_updates.specs.Updating.{insert_answer}
use Rattle.order.specs.Model.{act}
use Rattle.order.specs.Frames.{Frame, read, update}
use Rattle.order.specs.Fitting.{FitFrame}
use Rattle.order_calls.specs.Calls.{Reply, inserting, Call, reads, deletes, inserts, NoRoom}
use Rattle.order_calls.specs.Running.{updated}
use Rattle.order_calls.proofs.Accepting.{AcceptedDocument, accepted_sound, updated_accepted}
use Rattle.order_calls.proofs.Callable.{Callable}
use Rattle.order_calls.proofs.Calling.{last_checks, delete_fine, insert_check_lem, call_leaves, call_works, no_room_exactly, row_says_identity}
use Rattle.order_compaction.specs.Numbers.{Gap, SameInserted, copied, refused, SameButNumbers, same_reading, same_deleting, same_inserting}

-- the room of a document stays in an update
deleted_room : (p : List ℕ) (d : Document) → AcceptedDocument d → room_of (deleted_in p d) ≡ room_of d
deleted_room p d accepted =
    rw (
      deleted_tables p d,
      deleted_ids p d,
      deleted_rows p d.tables,
      deleted-length p d.tables (used_facts d.tables accepted.tables.fine).3,
    )
    refl

inserted_room : (p x : List ℕ) (d : Document) → RoomIn p x d → room_of (inserted_in p x d) ≡ room_of d
inserted_room p x d room =
    rw (
      inserted_ids_length p x d room.ids,
      inserted_tables p x d,
      inserted_rows_length p x d.tables room.tables.rows,
      inserted_marks_length p x d.tables room.tables.marks,
    )
    refl

module _ {more : ℕ} {d e : Document} (gap : Gap more d e) (accepted : AcceptedDocument d) (accepted' : AcceptedDocument e) where
  -- what fits in the fuller one fits in the other
  pub fits_too : (p x : List ℕ) → fits_in p x d ≡ true → fits_in p x e ≡ true
  unfolding fits_in
  fits_too p x fits =
      le-leb (e.tables.used + written p x e.tables) (room_of e)
      (omega (
        arith,
        leb-true (d.tables.used + written p x d.tables) (room_of d) fits,
        gap.room,
        gap.used,
        same-written gap.alike (accepted_sound accepted) (accepted_sound accepted') p x,
      ))

  deleted_gap : (p : List ℕ) → Gap more (deleted_in p d) (deleted_in p e)
  deleted_gap p = record {
    alike = deleted_alike gap.alike (accepted_sound accepted) (accepted_sound accepted') p;
    room = deleted_room p d accepted ∙ gap.room ∙ sym (deleted_room p e accepted');
    used = rw (deleted_tables p d, deleted_tables p e, deleted_used p d.tables, deleted_used p e.tables) gap.used;
  }

  module _ (p x : List ℕ) (fit : FitFrame (update (insert p x))) where
    inserted_gap : nameable p x d ≡ true → fits_in p x d ≡ true → Gap more (inserted_in p x d) (inserted_in p x e)
    inserted_gap names fits =
        let many : written p x d.tables ≡ written p x e.tables = same-written gap.alike (accepted_sound accepted) (accepted_sound accepted') p x in
        let names' : nameable p x e ≡ true = sym (same-nameable gap.alike (accepted_sound accepted) (accepted_sound accepted') p x) ∙ names in
        record {
          alike = inserted_alike gap.alike (accepted_sound accepted) (accepted_sound accepted') p x fit.tree;
          room =
              inserted_room p x d (fits_room_in p x d names fits) ∙ gap.room ∙ sym (inserted_room p x e (fits_room_in p x e names' (fits_too p x fits)));
          used = rw (inserted_tables p x d, inserted_tables p x e, used_written p x d, used_written p x e) (omega (arith, gap.used, many));
        }

    -- where there are identities and room, or too few identities, both do the same
    module _ (free : (nameable p x d ≡ true) → (fits_in p x d ≡ false) → ⊥) where
      left_gap : Gap more (stored_in p x d) (stored_in p x e)
      unfolding stored_in
      left_gap =
          rw (← same-nameable gap.alike (accepted_sound accepted) (accepted_sound accepted') p x)
          (go (nameable p x d) (fits_in p x d) (fits_in p x e) refl refl (fits_too p x))
        where
          go : (names room also : Bool) → nameable p x d ≡ names → fits_in p x d ≡ room → (fits_in p x d ≡ true → also ≡ true) →
              Gap more (cond (names && room) (inserted_in p x d) d) (cond (names && also) (inserted_in p x e) e)
          go true true true n f k = inserted_gap n f
          go true true false n f k = absurd (false≢true (k f))
          go true false also n f k = absurd (free n f)
          go false room also n f k = gap

      same_insert : SameInserted more (insert_answer (last_checks (nameable p x d) (fits_in p x d)) (copies p d.tables) (d.tables.used + written p x d.tables) (d.next + written p x d.tables))
          (insert_answer (last_checks (nameable p x e) (fits_in p x e)) (copies p e.tables) (e.tables.used + written p x e.tables) (e.next + written p x e.tables))
      same_insert =
          rw (
            ← same-nameable gap.alike (accepted_sound accepted) (accepted_sound accepted') p x,
            ← same-copies gap.alike (accepted_sound accepted) (accepted_sound accepted') p,
            ← same-written gap.alike (accepted_sound accepted) (accepted_sound accepted') p x,
          )
          (go (nameable p x d) (fits_in p x d) (fits_in p x e) e.next refl refl (fits_too p x) gap.alike.next)
        where
          go : (names room also : Bool) (to-give : ℕ) → nameable p x d ≡ names → fits_in p x d ≡ room → (fits_in p x d ≡ true → also ≡ true) → d.next ≡ to-give →
              SameInserted more (insert_answer (last_checks names room) (copies p d.tables) (d.tables.used + written p x d.tables) (d.next + written p x d.tables))
              (insert_answer (last_checks names also) (copies p d.tables) (e.tables.used + written p x d.tables) (to-give + written p x d.tables))
          go true true true to-give n f k q =
              let apart : e.tables.used + written p x d.tables + more ≡ d.tables.used + written p x d.tables = omega (arith, gap.used) in
              rw (← q) (copied apart)
          go true true false to-give n f k q = absurd (false≢true (k f))
          go true false also to-give n f k q = absurd (free n f)
          go false room also to-give n f k q = refused

-- the document that a frame leaves is accepted
pub stays : {f : Frame (List ℕ) Update} {d c : Document} {x : Reply} → FitFrame f → Callable f → AcceptedDocument d → Call f d x c → AcceptedDocument c
stays {f} {d} fit c accepted call = rw (call_leaves accepted c call) (go f fit)
  where
    go : (g : Frame (List ℕ) Update) → FitFrame g → AcceptedDocument (act updated g d)
    go (read p) h = accepted
    go (update u) h = updated_accepted accepted u h

-- one frame on both
module _ {more : ℕ} {d e : Document} (gap : Gap more d e) (accepted : AcceptedDocument d) (accepted' : AcceptedDocument e) where
  -- it answers the same but for numbers
  pub same_answers : {f : Frame (List ℕ) Update} {c c' : Document} {x y : Reply} → FitFrame f → Callable f → Call f d x c → Call f e y c' → (NoRoom x → ⊥) → SameButNumbers more d e x y
  same_answers fit c (reads {p = p} long h) (reads long' k) free =
      same_reading
      (call_works accepted c (reads long h) ∙ sym (call_works accepted' c (reads long' k)))
      (λ i.
      Iff.trans
      (row_says_identity accepted c fit.pattern (reads long h) i)
      (Iff.trans
      (alike_selects gap.alike (accepted_sound accepted) (accepted_sound accepted') fit.pattern i)
      (Iff.symm (row_says_identity accepted' c fit.pattern (reads long' k) i))))
  same_answers fit c (deletes {p = p} h) (deletes k) free =
      same_deleting
      (h.answered
      ∙ rw (delete_fine p d accepted c, delete_fine p e accepted' c, same-removed gap.alike (accepted_sound accepted) (accepted_sound accepted') p) refl
      ∙ sym k.answered)
  same_answers fit c (inserts {p = p} {x = x} {answer = a} h) (inserts {answer = a'} k) free =
      same_inserting {x = a} {y = a'}
      (rw (h.answered, k.answered, insert_check_lem p d accepted x c, insert_check_lem p e accepted' x c)
      (same_insert gap accepted accepted' p x fit (λ n r. free ((no_room_exactly accepted c (inserts h)).1 (n, r)))))

  -- and leaves such documents
  pub same_left : {f : Frame (List ℕ) Update} {c c' : Document} {x y : Reply} → FitFrame f → Callable f → Call f d x c → Call f e y c' → (NoRoom x → ⊥) → Gap more c c'
  same_left fit c (reads long h) (reads long' k) free = gap
  same_left fit c (deletes {p = p} h) (deletes k) free =
      rw (call_leaves accepted c (deletes h), call_leaves accepted' c (deletes k)) (deleted_gap gap accepted accepted' p)
  same_left fit c (inserts {p = p} {x = x} h) (inserts k) free =
      rw (call_leaves accepted c (inserts h), call_leaves accepted' c (inserts k))
      (left_gap gap accepted accepted' p x fit (λ n r. free ((no_room_exactly accepted c (inserts h)).1 (n, r))))

  -- where it is refused for room on the emptier one, it is on the other too
  pub room_too : {f : Frame (List ℕ) Update} {c c' : Document} {x y : Reply} → Callable f → Call f d x c → Call f e y c' → NoRoom y → NoRoom x
  room_too c (reads long h) (reads long' k) short = never short (call_works accepted' c (reads long' k))
  room_too c (deletes h) (deletes k) short = never short (call_works accepted' c (deletes k))
  room_too c (inserts {p = p} {x = x} h) (inserts k) short =
      let why = (no_room_exactly accepted' c (inserts k)).0 short in
      (no_room_exactly accepted c (inserts h)).1
      (same-nameable gap.alike (accepted_sound accepted) (accepted_sound accepted') p x ∙ why.0, go (fits_in p x d) refl why.1)
    where
      go : (room : Bool) → fits_in p x d ≡ room → fits_in p x e ≡ false → room ≡ false
      go true q none = absurd (false≢true (sym none ∙ fits_too gap accepted accepted' p x q))
      go false q none = refl

-- a call is refused for room or is not
pub room_or_not : {f : Frame (List ℕ) Update} {d c : Document} {x : Reply} → AcceptedDocument d → Callable f → Call f d x c → NoRoom x ⊎ (NoRoom x → ⊥)
room_or_not accepted c (reads long h) = inr (λ short. never short (call_works accepted c (reads long h)))
room_or_not accepted c (deletes h) = inr (λ short. never short (call_works accepted c (deletes h)))
room_or_not accepted c (inserts {p = p} {x = x} {d = d} {answer = a} h) = go (nameable p x d) (fits_in p x d) refl refl
  where
    go : (names room : Bool) → nameable p x d ≡ names → fits_in p x d ≡ room → NoRoom (inserting a) ⊎ (NoRoom (inserting a) → ⊥)
    go true true n f = inr (λ short. false≢true (sym ((no_room_exactly accepted c (inserts h)).0 short).1 ∙ f))
    go true false n f = inl ((no_room_exactly accepted c (inserts h)).1 (n, f))
    go false room n f = inr (λ short. false≢true (sym n ∙ ((no_room_exactly accepted c (inserts h)).0 short).0))
