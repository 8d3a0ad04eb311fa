-- The call of an accepted frame on an accepted document does what the model says, and is refused for identities or room or not at all.
use Rattle.std.specs.Prelude.{Result, Ok, Err}
use Rattle.outcomes.specs.declared.updates.Inserted.{Inserted}
use Prim.Native.Nat.{ℕ, ◌+◌, ◌<◌, ◌≤◌}
use mathlib.Core.Path.{◌≡◌, refl, sym, ◌∙◌, subst, ap}
use mathlib.Core.Bool.{Bool, true, false, ◌&&◌, cond, false≢true}
use mathlib.Core.List.{List}
use mathlib.Core.Logic.{◌⊎◌, inl, inr, ◌↔◌}
use native.Mathlib.Nat.{le_trans}
use native.Mathlib.Omega.{arith}
use borrow.Author.Tests.{lt-ltb, le-leb}
use lib.ListN.{length, replicate, length-replicate}
use Rattle.tables.specs.Limits.{used_limit}
use Rattle.tables.specs.Words.{steps}
use Rattle.tables.specs.Patterns.{Pattern}
use Rattle.tables.specs.Checks.{◌then◌, test, refuse, output_check, Checked, Fine}
use Rattle.tables.specs.declared.refusal.Refusal.{Refusal}
use Rattle.tables.proofs.Accepted.{never}
use Rattle.tables.proofs.Soundness.{used_facts}
use Rattle.selection.specs.Embeddings.{Selects}
use Rattle.selection.specs.Operations.{read_row, removed, copies}
use Rattle.selection.proofs.Rows.{read_row_lem}
use Rattle.identities.specs.Documents.{Document, document}
use Rattle.identities.specs.Updates.{deleted_in, written, inserted_in, nameable, fits_in, stored_in}
use Rattle.identities.specs.Showing.{SelectsIdentity}
use Rattle.identities.proofs.Showing.{selects_used}
use Rattle.check_read.specs.Readable.{read_check}
use Rattle.doc_updates.specs.Updating.{delete_check, insert_check, delete_answer, insert_answer, Delete, Insert}
use Rattle.doc_updates.proofs.Accepted.{delete_tells}
use Rattle.doc_updates.proofs.Deletes.{removed_tables, delete_doc}
use Rattle.doc_updates.proofs.Inserts.{insert_doc}
use Rattle.conflict.specs.Conflict.{Update, delete, insert}
use Rattle.order.specs.Frames.{Frame, read, update}
use Rattle.order.specs.Model.{act}
use Rattle.order_calls.specs.Calls.{Reply, reading, inserting, used_after, next_after, Call, reads, deletes, inserts, refusal_of, NoRoom, NoIdentities, Works, Says, SaysIdentity}
use Rattle.order_calls.specs.Running.{updated}
use Rattle.order_calls.proofs.Accepting.{AcceptedDocument, accepted_whole}
use Rattle.order_calls.proofs.Callable.{Callable}

-- 16 before 11: what is left of an insert's checks where the others are fine
abbrev pub last_checks : Bool → Bool → Checked
last_checks names room = test names (refuse 16 5 0) then test room (refuse 11 4 0)

-- the checks of a call
module _ (p : List ℕ) (d : Document) (accepted : AcceptedDocument d) where
  read_fine : (bytes : ℕ) → Callable (read p) → used_limit ≤ bytes → read_check p d bytes ≡ Fine
  unfolding read_check output_check
  read_fine bytes pattern long =
      rw (accepted_whole accepted, pattern, le-leb d.tables.used bytes (le_trans (used_facts d.tables accepted.tables.fine).1 long))

  pub delete_fine : Callable (update (delete p)) → delete_check p d ≡ Fine
  unfolding delete_check
  delete_fine c = rw (accepted_whole accepted, c.0, lt-ltb 1 (steps p) c.1)

  pub insert_check_lem : (x : List ℕ) → Callable (update (insert p x)) → insert_check p x d ≡ last_checks (nameable p x d) (fits_in p x d)
  unfolding insert_check
  insert_check_lem x c = rw (accepted_whole accepted, c.0, c.1)

-- a delete leaves the deleted document
delete_leaves : {p marks : List ℕ} {d : Document} {answer : Result ℕ Refusal} → Delete p d d.tables.marks marks answer → delete_check p d ≡ Fine →
    document d.tables.rows marks d.tables.used d.ids d.next ≡ deleted_in p d
unfolding deleted_in
delete_leaves {p} {marks} {d} {answer} h e =
    let a : answer ≡ delete_answer Fine (removed p d.tables) = rw e at h.answered in
    rw (delete_doc p d.tables (removed_tables (subst (Delete p d d.tables.marks marks) a h)))

-- an insert leaves the document with the copies in it, or, where it is refused, as it was
module _ {p x rows marks ids : List ℕ} {d : Document} {answer : Result Inserted Refusal} (h : Insert p x d d.tables.rows d.tables.marks d.ids rows marks ids answer) where
  left : Document
  left = document rows marks (used_after answer d.tables.used) ids (next_after answer d.next)

  told : (c : Checked) → insert_check p x d ≡ c → answer ≡ insert_answer c (copies p d.tables) (d.tables.used + written p x d.tables) (d.next + written p x d.tables)
  told c e = rw e at h.answered

  insert_made : insert_check p x d ≡ Fine → left ≡ inserted_in p x d
  unfolding left
  insert_made e =
      rw (told Fine e) (insert_doc p x d (subst (Insert p x d d.tables.rows d.tables.marks d.ids rows marks ids) (told Fine e) h))

  insert_refused : {why : Refusal} → insert_check p x d ≡ Err why → left ≡ d
  unfolding left
  insert_refused {why} e =
      let r : rows ≡ d.tables.rows = rw e at h.rows in
      let m : marks ≡ d.tables.marks = rw e at h.marks in
      let i : ids ≡ d.ids = rw e at h.ids in
      rw (r, m, i, told (Err why) e)

  insert_leaves : (names room : Bool) → insert_check p x d ≡ last_checks names room → left ≡ cond (names && room) (inserted_in p x d) d
  insert_leaves true true e = insert_made e
  insert_leaves true false e = insert_refused e
  insert_leaves false room e = insert_refused e

insert_tells : (c : Checked) (n used to-give : ℕ) {answer : Result Inserted Refusal} → answer ≡ insert_answer c n used to-give → refusal_of (inserting answer) ≡ c
insert_tells (Ok tt) n used to-give e = rw e
insert_tells (Err why) n used to-give e = rw e

-- the document after a call is that of the model
pub call_leaves : {f : Frame (List ℕ) Update} {d e : Document} {answer : Reply} → AcceptedDocument d → Callable f → Call f d answer e → e ≡ act updated f d
unfolding stored_in left
call_leaves accepted c (reads long h) = refl
call_leaves accepted c (deletes {p = p} {d = d} h) = delete_leaves h (delete_fine p d accepted c)
call_leaves accepted c (inserts {p = p} {x = x} {d = d} h) = insert_leaves h (nameable p x d) (fits_in p x d) (insert_check_lem p d accepted x c)

-- an insert is refused for identities exactly where there are too few, for room exactly where there are enough and it does not fit, and else by nothing
insert_refusal : {p x rows marks ids : List ℕ} {d : Document} {answer : Result Inserted Refusal} → AcceptedDocument d → Callable (update (insert p x)) →
    Insert p x d d.tables.rows d.tables.marks d.ids rows marks ids answer → refusal_of (inserting answer) ≡ last_checks (nameable p x d) (fits_in p x d)
insert_refusal {p} {x} {d = d} accepted c h =
    insert_tells _ (copies p d.tables) (d.tables.used + written p x d.tables) (d.next + written p x d.tables) h.answered ∙ insert_check_lem p d accepted x c

by_last : (names room : Bool) {c : Checked} → c ≡ last_checks names room → (c ≡ Fine) ⊎ ((c ≡ refuse 16 5 0) ⊎ (c ≡ refuse 11 4 0))
by_last true true e = inl e
by_last true false e = inr (inr e)
by_last false room e = inr (inl e)

-- a frame's call is not refused, but for an insert that has too few identities or no room
pub call_works : {f : Frame (List ℕ) Update} {d e : Document} {answer : Reply} → AcceptedDocument d → Callable f → Call f d answer e → Works f answer
call_works accepted c (reads {p = p} {before = before} {d = d} long h) = h.answered ∙ read_fine p d accepted (length before) c long
call_works accepted c (deletes {p = p} {d = d} h) = delete_tells _ (removed p d.tables) h.answered ∙ delete_fine p d accepted c
call_works accepted c (inserts {p = p} {x = x} {d = d} h) = by_last (nameable p x d) (fits_in p x d) (insert_refusal accepted c h)

-- 16 and 11 are two refusals
table_is : Checked → ℕ
table_is (Ok tt) = 0
table_is (Err r) = r.table

apart : {A : Type 0} {c : Checked} → c ≡ refuse 16 5 0 → c ≡ refuse 11 4 0 → A
unfolding table_is
apart e f = let z : ◌≡◌ {A = ℕ} 5 4 = ap table_is (sym e ∙ f) in absurd (omega arith)

pub no_identities_exactly : {p x : List ℕ} {d e : Document} {answer : Reply} → AcceptedDocument d → Callable (update (insert p x)) →
    Call (update (insert p x)) d answer e → NoIdentities answer ↔ (nameable p x d ≡ false)
no_identities_exactly {p} {x} {d} accepted c (inserts h) = go (nameable p x d) (fits_in p x d) (insert_refusal accepted c h)
  where
    go : (names room : Bool) {k : Checked} → k ≡ last_checks names room → (k ≡ refuse 16 5 0) ↔ (names ≡ false)
    go true true e = ((λ q. never q e), (λ q. absurd (false≢true (sym q))))
    go true false e = ((λ q. apart q e), (λ q. absurd (false≢true (sym q))))
    go false room e = ((λ q. refl), (λ q. e))

pub no_room_exactly : {p x : List ℕ} {d e : Document} {answer : Reply} → AcceptedDocument d → Callable (update (insert p x)) →
    Call (update (insert p x)) d answer e → NoRoom answer ↔ ((nameable p x d ≡ true) × (fits_in p x d ≡ false))
no_room_exactly {p} {x} {d} accepted c (inserts h) = go (nameable p x d) (fits_in p x d) (insert_refusal accepted c h)
  where
    go : (names room : Bool) {k : Checked} → k ≡ last_checks names room → (k ≡ refuse 11 4 0) ↔ ((names ≡ true) × (room ≡ false))
    go true true e = ((λ q. never q e), (λ q. absurd (false≢true (sym q.1))))
    go true false e = ((λ q. (refl, refl)), (λ q. e))
    go false room e = ((λ q. apart e q), (λ q. absurd (false≢true q.0)))

-- a read's row says which nodes the pattern selects by embeddings
pub row_says : {p row : List ℕ} {d e : Document} {answer : Checked} → AcceptedDocument d → Callable (read p) → Pattern p → Call (read p) d (reading answer row) e →
    (v : ℕ) → Says row d v ↔ Selects p d.tables v
row_says {p} {row} {d} {answer = answer} accepted c pattern (reads {before = before} long h) v =
    let fine : answer ≡ Fine = h.answered ∙ read_fine p d accepted (length before) c long in
    let said = read_row_lem pattern accepted.tables.sound before (le_trans (used_facts d.tables accepted.tables.fine).1 long) in
    let same : row ≡ read_row p d.tables before = rw fine at h.row in (
      (λ s. (said.exactly v s.used).0 (rw same at s.byte)),
      (λ s.
          let used : v < d.tables.used = selects_used pattern s in
          record { used = used; byte = rw same ((said.exactly v used).1 s) }),
    )

-- and so which identities
pub row_says_identity : {p row : List ℕ} {d e : Document} {answer : Checked} → AcceptedDocument d → Callable (read p) → Pattern p → Call (read p) d (reading answer row) e →
    (i : ℕ) → SaysIdentity row d i ↔ SelectsIdentity p d i
row_says_identity accepted c pattern call i = (
  (λ s. record { node = s.node; selects = (row_says accepted c pattern call s.node).0 s.says; named = s.named }),
  (λ s. record { node = s.node; says = (row_says accepted c pattern call s.node).1 s.selects; named = s.named }),
)

-- two calls of an update on one document answer the same
pub update_one : {u : Update} {d e c : Document} {x y : Reply} → Call (update u) d x e → Call (update u) d y c → x ≡ y
update_one (deletes h) (deletes k) = rw (h.answered, k.answered)
update_one (inserts h) (inserts k) = rw (h.answered, k.answered)

-- a call always answers
pub record Answers (f : Frame (List ℕ) Update) (d : Document) : Type 0 where
  pub answer : Reply
  pub left : Document
  pub call : Call f d answer left

pub answers : (f : Frame (List ℕ) Update) (d : Document) → Answers f d
answers (read p) d = record { answer = _; left = _; call = reads {before = replicate used_limit 0} (rw length-replicate (omega arith)) (record { answered = refl; row = refl }) }
answers (update (delete p)) d = record { answer = _; left = _; call = deletes (record { answered = refl; marks = refl }) }
answers (update (insert p x)) d = record { answer = _; left = _; call = inserts (record { answered = refl; rows = refl; marks = refl; ids = refl }) }
