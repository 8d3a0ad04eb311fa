-- Deletes called one after another: each is refused as it is on the first document, they leave the marks of all together, and count what they remove.
use Rattle.std.specs.Prelude.{Result, Ok, Err}
use Rattle.tables.specs.declared.refusal.Refusal.{Refusal}
use Rattle.tables.specs.Checks.{Fine}
use Prim.Native.Nat.{ℕ, ◌+◌}
use mathlib.Core.Path.{◌≡◌, refl, sym, ◌∙◌, ap}
use mathlib.Core.List.{List, [], ◌∷◌, ◌++◌, map}
use native.Mathlib.Omega.{arith}
use Rattle.tables.specs.Documents.{present}
use Rattle.tables.proofs.Soundness.{used_facts}
use Rattle.selection.specs.Lists.{count}
use Rattle.selection.specs.Operations.{removed}
use Rattle.identities.specs.Documents.{Document}
use Rattle.identities.specs.Updates.{deleted_in}
use Rattle.doc_updates.specs.Updating.{delete_check, delete_refusal, Delete}
use Rattle.doc_updates.proofs.Accepted.{delete_steps, removed_fine, kept_told, delete_tells}
use Rattle.doc_updates.proofs.Settled.{delete_one}
use Rattle.doc_updates.proofs.Deletes.{delete_same, removed_tables, delete_doc, delete_count}
use Rattle.order_calls.proofs.Accepting.{AcceptedDocument, accepted_whole, deleted_in_accepted}
use Rattle.order_deletes.specs.Deletes.{with_marks, Deletes, over, next, total, CalledInTurn}
use Rattle.order_deletes.specs.Together.{own_check, together}
use Rattle.order_deletes.proofs.Together.{together_none, together_skip, together_more}

-- on a document that meets no refusal a delete has its own check left
pub own_check_lem : (p : List ℕ) {d : Document} → AcceptedDocument d → delete_check p d ≡ own_check p
unfolding delete_check own_check
own_check_lem p accepted = rw (accepted_whole accepted)

-- a delete that tells a number was accepted, and leaves the deleted document
module _ {p marks : List ℕ} {d : Document} {n : ℕ} (h : Delete p d d.tables.marks marks (Ok n)) where
  pub call_fine : delete_check p d ≡ Fine
  call_fine = removed_fine (delete_check p d) (removed p d.tables) h.answered

  call_document : with_marks d marks ≡ deleted_in p d
  unfolding deleted_in
  call_document = rw (delete_doc p d.tables (removed_tables h))

-- a call leaves such a document so
call_accepted : {p marks : List ℕ} {d : Document} {answer : Result ℕ Refusal} → AcceptedDocument d → Delete p d d.tables.marks marks answer → AcceptedDocument (with_marks d marks)
call_accepted {p} {d = d} {answer = Ok n} accepted h = rw (call_document h) (deleted_in_accepted accepted p (delete_steps p d (call_fine h)))
call_accepted {answer = Err why} accepted h = rw (delete_same h) accepted

pub calls_marks : {ps : List (List ℕ)} {d : Document} {answers : List (Result ℕ Refusal)} {last : List ℕ} → AcceptedDocument d → Deletes ps d answers last → last ≡ together ps d.tables
calls_marks {d = d} accepted over = sym (together_none d.tables (used_facts d.tables accepted.tables.fine).3)
calls_marks accepted (next {p = p} {ps = ps} {d = d} {answer = Ok n} h rest) =
    calls_marks (call_accepted accepted h) rest
    ∙ ap (together ps) (delete_doc p d.tables (removed_tables h))
    ∙ together_more p ps d.tables (sym (own_check_lem p accepted) ∙ call_fine h)
calls_marks {last = last} accepted (next {p = p} {ps = ps} {d = d} {answer = Err why} h rest) =
    let e : last ≡ together ps d.tables = rw (delete_same h) at (calls_marks (call_accepted accepted h) rest) in
    e ∙ sym (together_skip p ps d.tables (sym (own_check_lem p accepted) ∙ kept_told (delete_check p d) (removed p d.tables) h.answered))

-- present before equals present after the last plus what they tell together
pub calls_count : {ps : List (List ℕ)} {d : Document} {answers : List (Result ℕ Refusal)} {last : List ℕ} → Deletes ps d answers last →
    count (present d.tables) d.tables.used ≡ count (present (with_marks d last).tables) d.tables.used + total answers
unfolding total
calls_count over = omega arith
calls_count (next {p = p} {d = d} {answer = Ok n} h rest) = omega (arith, delete_count p d.tables (removed_tables h), calls_count rest)
calls_count {last = last} (next {d = d} {answer = Err why} {answers = answers} h rest) =
    let e : count (present d.tables) d.tables.used ≡ count (present (with_marks d last).tables) d.tables.used + total answers =
    rw (delete_same h) at (calls_count rest) in
    omega arith

-- each is refused as it is on the first document
calls_own : {ps : List (List ℕ)} {d : Document} {answers : List (Result ℕ Refusal)} {last : List ℕ} → AcceptedDocument d → Deletes ps d answers last → map delete_refusal answers ≡ map own_check ps
calls_own accepted over = refl
calls_own accepted (next {p = p} {d = d} h rest) =
    rw (delete_tells (delete_check p d) (removed p d.tables) h.answered, own_check_lem p accepted, calls_own (call_accepted accepted h) rest)

pub calls_refusals : {ps : List (List ℕ)} {d : Document} {answers : List (Result ℕ Refusal)} {last : List ℕ} → AcceptedDocument d → Deletes ps d answers last →
    map delete_refusal answers ≡ map (λ p. delete_check p d) ps
calls_refusals {ps} {d} accepted calls = calls_own accepted calls ∙ own ps
  where
    own : (qs : List (List ℕ)) → map own_check qs ≡ map (λ p. delete_check p d) qs
    own [] = refl
    own (q ∷ qs) = rw (own_check_lem q accepted, own qs)

-- the last leaves an accepted document too, and others may follow it
pub calls_accepted : {ps : List (List ℕ)} {d : Document} {answers : List (Result ℕ Refusal)} {last : List ℕ} → AcceptedDocument d → Deletes ps d answers last → AcceptedDocument (with_marks d last)
calls_accepted accepted over = accepted
calls_accepted accepted (next h rest) = calls_accepted (call_accepted accepted h) rest

pub calls_then : {ps qs : List (List ℕ)} {d : Document} {answers others : List (Result ℕ Refusal)} {last end : List ℕ} →
    Deletes ps d answers last → Deletes qs (with_marks d last) others end → Deletes (ps ++ qs) d (answers ++ others) end
calls_then over more = more
calls_then (next h rest) more = next h (calls_then rest more)

-- there always are such calls, and they answer in one way
pub calls_some : (ps : List (List ℕ)) (d : Document) → CalledInTurn ps d
calls_some [] d = record { answers = []; last = d.tables.marks; calls = over }
calls_some (p ∷ ps) d = go (record { answered = refl; marks = refl }) (λ e. calls_some ps e)
  where
    go : {marks : List ℕ} {answer : Result ℕ Refusal} → Delete p d d.tables.marks marks answer → ((e : Document) → CalledInTurn ps e) → CalledInTurn (p ∷ ps) d
    go {marks} {answer} h more =
        let rest = more (with_marks d marks) in
        record { answers = answer ∷ rest.answers; last = rest.last; calls = next h rest.calls }

pub calls_one : {ps : List (List ℕ)} {d : Document} {one other : List (Result ℕ Refusal)} {last end : List ℕ} → Deletes ps d one last → Deletes ps d other end → (one ≡ other) × (last ≡ end)
calls_one over over = (refl, refl)
calls_one (next h rest) (next k more) =
    let same = delete_one h k in
    let tail = calls_one (rw same.1 at rest) more in
    (rw (same.0, tail.0), tail.1)
