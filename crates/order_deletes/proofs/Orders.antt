-- In every order deletes leave the same marks and remove the same number together; one that is made again finds nothing left.
use Rattle.std.specs.Prelude.{Result, Ok}
use Rattle.tables.specs.declared.refusal.Refusal.{Refusal}
use Rattle.tables.specs.Checks.{Fine}
use Prim.Native.Nat.{ℕ, ◌+◌}
use mathlib.Core.Path.{◌≡◌, sym, ◌∙◌, ap, subst}
use mathlib.Core.List.Perm
use mathlib.Core.List.{List, [], ◌∷◌, Perm}
use native.Mathlib.Omega.{arith}
use Rattle.tables.specs.Documents.{present}
use Rattle.selection.specs.Lists.{count}
use Rattle.selection.specs.Operations.{removed}
use Rattle.identities.specs.Documents.{Document}
use Rattle.doc_updates.specs.Updating.{delete_check, delete_refusal, Delete}
use Rattle.doc_updates.proofs.Settled.{delete_one}
use Rattle.doc_updates.proofs.Deletes.{removed_tables, delete_count}
use Rattle.order_calls.proofs.Accepting.{AcceptedDocument}
use Rattle.order.specs.Frames.{At, here}
use Rattle.order_deletes.specs.Deletes.{with_marks, Deletes, over, next, total}
use Rattle.order_deletes.proofs.Together.{together_order, together_again}
use Rattle.order_deletes.proofs.Calls.{own_check_lem, call_fine, calls_marks, calls_count, calls_refusals, calls_accepted, calls_then}

-- calls from one document that leave the same marks remove the same number together
same_total : {ps qs : List (List ℕ)} {d : Document} {one other : List (Result ℕ Refusal)} {last end : List ℕ} → last ≡ end → Deletes ps d one last → Deletes qs d other end → total one ≡ total other
same_total {d = d} {one = one} {last = last} {end = end} e calls others =
    let h : count (present d.tables) d.tables.used ≡ count (present (with_marks d end).tables) d.tables.used + total one = rw e at (calls_count calls) in
    omega (arith, calls_count others)

module _ {ps qs : List (List ℕ)} {d : Document} {one other : List (Result ℕ Refusal)} {last end : List ℕ} (same : Perm ps qs) (accepted : AcceptedDocument d)
    (calls : Deletes ps d one last) (others : Deletes qs d other end) where
  pub orders_marks : last ≡ end
  orders_marks = calls_marks accepted calls ∙ together_order same d.tables ∙ sym (calls_marks accepted others)

  pub orders_total : total one ≡ total other
  orders_total = same_total orders_marks calls others

-- two of them: in either order the same marks, the same number together, and the second is not refused
module _ {p q : List ℕ} {d : Document} (accepted : AcceptedDocument d) where
  pub either_marks : {one other : List (Result ℕ Refusal)} {last end : List ℕ} → Deletes (p ∷ q ∷ []) d one last → Deletes (q ∷ p ∷ []) d other end → last ≡ end
  either_marks = orders_marks (Perm.swap q p []) accepted

  pub either_total : {i j k l : ℕ} {last end : List ℕ} →
      Deletes (p ∷ q ∷ []) d (Ok i ∷ Ok j ∷ []) last → Deletes (q ∷ p ∷ []) d (Ok k ∷ Ok l ∷ []) end → i + j ≡ k + l
  unfolding total
  either_total calls others = let e = orders_total (Perm.swap q p []) accepted calls others in omega arith

  pub second_works : {x y : Result ℕ Refusal} {last : List ℕ} → delete_check q d ≡ Fine → Deletes (p ∷ q ∷ []) d (x ∷ y ∷ []) last → delete_refusal y ≡ Fine
  second_works fine calls = let e = calls_refusals accepted calls in cc

-- a first one that tells a number was accepted
pub first_fine : {p : List ℕ} {ps : List (List ℕ)} {d : Document} {n : ℕ} {answers : List (Result ℕ Refusal)} {last : List ℕ} →
    Deletes (p ∷ ps) d (Ok n ∷ answers) last → delete_check p d ≡ Fine
first_fine (next h rest) = call_fine h

-- one that was made before, whatever came between, leaves the marks as they are and tells 0
pub made_before : {ps : List (List ℕ)} {d : Document} {answers : List (Result ℕ Refusal)} {last : List ℕ} → AcceptedDocument d → Deletes ps d answers last →
    {k : ℕ} {p : List ℕ} → At ps k p → delete_check p d ≡ Fine →
    {after : List ℕ} {answer : Result ℕ Refusal} → Delete p (with_marks d last) last after answer → (after ≡ last) × (answer ≡ Ok 0)
made_before {d = d} {last = last} accepted calls {p = p} at fine {after} {answer} h =
    let left : after ≡ last = calls_marks accepted (calls_then calls (next h over)) ∙ together_again at d.tables ∙ sym (calls_marks accepted calls) in
    let e : Document = with_marks d last in
    let works : delete_check p e ≡ Fine = own_check_lem p (calls_accepted accepted calls) ∙ sym (own_check_lem p accepted) ∙ fine in
    let told : answer ≡ Ok (removed p e.tables) = rw works at h.answered in
    let counted : count (present e.tables) d.tables.used ≡ count (present (with_marks d after).tables) d.tables.used + removed p e.tables =
    delete_count p e.tables (removed_tables (subst (Delete p e last after) told h)) in
    let same : count (present e.tables) d.tables.used ≡ count (present e.tables) d.tables.used + removed p e.tables = rw left at counted in
    let none : removed p e.tables ≡ 0 = omega arith in
    (left, told ∙ ap Ok none)

-- so the same one twice leaves what it leaves once
pub again : {p once last : List ℕ} {d : Document} {n : ℕ} {answers : List (Result ℕ Refusal)} → AcceptedDocument d →
    Deletes (p ∷ []) d (Ok n ∷ []) once → Deletes (p ∷ p ∷ []) d answers last → (last ≡ once) × (answers ≡ Ok n ∷ Ok 0 ∷ [])
again accepted (next g over) (next h (next k over)) =
    let first = delete_one h g in
    let second = made_before accepted (next h over) here (call_fine g) k in
    (second.0 ∙ first.1, rw (first.0, second.1))
