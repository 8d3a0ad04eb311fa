-- Demand 3 over the calls: two runs of an accepted batch from an accepted document, one in an order that keeps to the slots and one in the batch's own,
-- give the same.
use Rattle.tables.specs.Checks.{Checked}
use Prim.Native.Nat.{ℕ}
use mathlib.Core.Path.{◌≡◌, sym, ◌∙◌, subst}
use mathlib.Core.Bool.{Bool}
use mathlib.Core.List.{List}
use mathlib.Core.Logic.Iff
use mathlib.Core.Logic.{◌↔◌}
use Rattle.identities.specs.Documents.{Document}
use Rattle.conflict.specs.Conflict.{Update}
use Rattle.order.specs.Model.{Fits, Order, met, Same}
use Rattle.order.specs.Frames.{Frame, read, update, At}
use Rattle.order.specs.Order.{own}
use Rattle.order.specs.Fitting.{FitFrame, DecidedBy}
use Rattle.order.proofs.Own.{own_order}
use Rattle.order_calls.specs.Calls.{Reply, reading, Call, Called, called, Run, NoRoom, NoIdentities, Says, SaysIdentity, SameRuns}
use Rattle.order_calls.specs.Running.{updated}
use Rattle.order_calls.proofs.Accepting.{AcceptedDocument, accepted_sound}
use Rattle.order_calls.proofs.Callable.{Callable}
use Rattle.order_calls.proofs.Calling.{row_says, row_says_identity, update_one}
use Rattle.order_calls.proofs.Demand.{Shown, shown_same}
use Rattle.order_calls.proofs.Running.{Once, run-last, run-met, Made, run_made, made_frame}

same_answer : (Of : Reply → Type 0) {x y : Reply} → x ≡ y → Of x ↔ Of y
same_answer Of e = (subst Of e, subst Of (sym e))

-- Alike is what is told of what a read is shown
module _ {Related : List ℕ → Update → Type 0} {Showing Alike : List ℕ → Document → Document → Type 0} (shown : Shown Related Showing)
    (tells : (r : List ℕ) (d e : Document) → Showing r d e → Alike r d e)
    {test : List ℕ → Update → Bool} (decides : DecidedBy Related test)
    {b : List (Frame (List ℕ) Update)} (fits : Fits FitFrame b) (callable : Fits Callable b) {d : Document} (accepted : AcceptedDocument d)
    {o : List ℕ} (order : Order test b o)
    {one other : List Called} {last end : Document} (run : Run b o d one last) (runs : Run b (own b) d other end) where
  same : Same updated Showing b o d
  same = shown_same shown decides fits (accepted_sound accepted) order

  once : Once o
  once = record { once = order.once }

  once_own : Once (own b)
  once_own = record { once = (own_order test b).once }

  -- the documents that a frame met in both
  module _ {k i j : ℕ} {e f : Document} {x y : Reply} (p : At one i (called k e x)) (q : At other j (called k f y)) where
    first : Made fits callable k e x
    first = run_made fits callable accepted run p

    second : Made fits callable k f y
    second = run_made fits callable accepted runs q

    -- a read is shown the same
    shows_same : {r : List ℕ} → At b k (read r) → Showing r e f
    shows_same {r} at =
        let here : e ≡ met updated b o d k = run-met fits callable accepted once run p in
        let there : f ≡ met updated b (own b) d k = run-met fits callable accepted once_own runs q in
        rw (← here, ← there) at (same.reads at)

    -- an update met one document
    update_same : {u : Update} → At b k (update u) → x ≡ y
    update_same {u} at =
        let both : e ≡ f =
        run-met fits callable accepted once run p ∙ same.updates at ∙ sym (run-met fits callable accepted once_own runs q) in
        update_one (subst (λ (c : Document). Call (update u) c x first.left) both (made_frame fits callable first at)) (made_frame fits callable second at)

  module _ {k i j : ℕ} {r row line : List ℕ} {e f : Document} {x y : Checked} (at : At b k (read r))
      (p : At one i (called k e (reading x row))) (q : At other j (called k f (reading y line))) where
    rows_same : (v : ℕ) → SaysIdentity row e v ↔ SaysIdentity line f v
    rows_same v =
        let m = first p q in
        let n = second p q in
        let fit = (fits.fit at).pattern in
        Iff.trans
        (row_says_identity m.accepted (callable.fit at) fit (made_frame fits callable m at) v)
        (Iff.trans
        ((shown.identities (shows_same p q at)).identities v)
        (Iff.symm (row_says_identity n.accepted (callable.fit at) fit (made_frame fits callable n at) v)))

    numbers_same : (v : ℕ) → Says row e v ↔ Says line f v
    numbers_same v =
        let m = first p q in
        let n = second p q in
        let fit = (fits.fit at).pattern in
        Iff.trans
        (row_says m.accepted (callable.fit at) fit (made_frame fits callable m at) v)
        (Iff.trans ((shown.nodes (shows_same p q at)).nodes v) (Iff.symm (row_says n.accepted (callable.fit at) fit (made_frame fits callable n at) v)))

  pub shown_runs : SameRuns Alike b one last other end
  shown_runs = record {
    reads = rows_same;
    numbers = numbers_same;
    shows = λ at p q. tells _ _ _ (shows_same p q at);
    updates = λ at p q. update_same p q at;
    refusals = λ at p q. same_answer NoRoom (update_same p q at);
    nameless = λ at p q. same_answer NoIdentities (update_same p q at);
    tables = run-last fits callable accepted run ∙ same.document ∙ sym (run-last fits callable accepted runs);
  }
