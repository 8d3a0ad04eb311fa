-- A run of a batch gives what the model gives: each call meets the document that its frame meets in the model, and the last one is the model's.
use Prim.Native.Nat.{ℕ, suc, ◌<◌}
use mathlib.Core.Path.{◌≡◌, refl, sym, ◌∙◌, ap, subst}
use mathlib.Core.Bool.{true, false}
use mathlib.Core.List.{List, [], ◌∷◌}
use mathlib.Core.Logic.{◌↔◌}
use native.Mathlib.Omega.{arith}
use lib.ListN.{length}
use Rattle.identities.specs.Documents.{Document}
use Rattle.identities.specs.Updates.{nameable, fits_in}
use Rattle.conflict.specs.Conflict.{Update, insert}
use Rattle.order.specs.Model.{Fits, act, ran, last_doc, met}
use Rattle.order.specs.Frames.{Frame, read, update, At, here, there}
use Rattle.order.specs.Fitting.{FitFrame}
use Rattle.order.proofs.Places.{at_one, by_kind}
use Rattle.order.proofs.Stages.{ran_at, met_cases}
use Rattle.order_calls.specs.Calls.{Reply, Call, Called, called, Run, over, next, Has, Runs, NoRoom, NoIdentities, Works}
use Rattle.order_calls.specs.Running.{updated}
use Rattle.order_calls.proofs.Accepting.{AcceptedDocument, updated_accepted}
use Rattle.order_calls.proofs.Callable.{Callable}
use Rattle.order_calls.proofs.Calling.{call_leaves, call_works, no_identities_exactly, no_room_exactly, answers}

-- in an order each frame stands once
pub record Once (o : List ℕ) : Type 0 where
  pub once : {p q k : ℕ} → At o p k → At o q k → p ≡ q

once_tail : {k : ℕ} {o : List ℕ} → Once (k ∷ o) → Once o
once_tail h = record { once = λ p q. omega (arith, h.once (there p) (there q)) }

-- the call at place i of a run is that of the frame at place i of the order
pub run-place : {b : List (Frame (List ℕ) Update)} {o : List ℕ} {d last e : Document} {calls : List Called} {i k : ℕ} {a : Reply} →
    Run b o d calls last → At calls i (called k e a) → At o i k
run-place (next at call rest) here = here
run-place (next at call rest) (there p) = there (run-place rest p)
run-place {b = b} {e = e} {i = i} {k = k} {a = a} (over {d = d}) x6 = elim x6 [ ]

-- each frame of the order has its call, at its place
pub run-has : {b : List (Frame (List ℕ) Update)} {o : List ℕ} {d last : Document} {calls : List Called} {i k : ℕ} → Run b o d calls last → At o i k → Has calls i k
run-has (next at call rest) here = record { met = _; answer = _; at = here }
run-has (next at call rest) (there p) =
    let h = run-has rest p in
    record { met = h.met; answer = h.answer; at = there h.at }
run-has {b = b} {i = i} {k = k} (over {d = d}) x6 = elim x6 [ ]

module _ {b : List (Frame (List ℕ) Update)} (fitting : Fits FitFrame b) (callable : Fits Callable b) where
  kept : (f : Frame (List ℕ) Update) → FitFrame f → {d : Document} → AcceptedDocument d → AcceptedDocument (act updated f d)
  kept (read r) fit h = h
  kept (update u) fit h = updated_accepted h u fit

  -- a call leaves what its frame makes of the document in the model, and leaves it accepted
  leaves : {k : ℕ} {f : Frame (List ℕ) Update} {d e : Document} {a : Reply} → AcceptedDocument d → At b k f → Call f d a e → e ≡ ran updated b k d
  leaves {d = d} accepted at call = call_leaves accepted (callable.fit at) call ∙ sym (ran_at updated at d)

  stays : {k : ℕ} {f : Frame (List ℕ) Update} {d e : Document} {a : Reply} → AcceptedDocument d → At b k f → Call f d a e → AcceptedDocument e
  stays {f = f} accepted at call = rw (call_leaves accepted (callable.fit at) call) (kept f (fitting.fit at) accepted)

  pub run-last : {o : List ℕ} {d last : Document} {calls : List Called} → AcceptedDocument d → Run b o d calls last → last ≡ last_doc updated b o d
  unfolding last_doc
  run-last accepted over = refl
  run-last accepted (next {o = o} at call rest) = run-last (stays accepted at call) rest ∙ ap (last_doc updated b o) (leaves accepted at call)

  pub run-met : {o : List ℕ} {d last e : Document} {calls : List Called} {i k : ℕ} {a : Reply} → AcceptedDocument d → Once o →
      Run b o d calls last → At calls i (called k e a) → e ≡ met updated b o d k
  run-met accepted once (next {k = k} {o = o} {d = d} at call rest) here =
      met_cases updated (λ m. d ≡ m) b k o d k (λ e. refl) (λ other. absurd (other refl))
  run-met {e = e} {k = j} accepted once (next {k = k} {o = o} {d = d} at call rest) (there {k = i} p) =
      met_cases updated (λ m. e ≡ m) b k o d j
      (λ same.
      let again : At o i k = subst (λ (n : ℕ). At o i n) (sym same) (run-place rest p) in
      absurd (omega (arith, once.once here (there again))))
      (λ other. rw (← leaves accepted at call) (run-met (stays accepted at call) (once_tail once) rest p))
  run-met {e = e} {i = i} {k = j} {a = a} accepted once (over {d = d}) x16 = elim x16 [ ]

  -- what was called at a place of a run: its frame, on an accepted document
  pub record Made (k : ℕ) (e : Document) (a : Reply) : Type 0 where
    pub frame : Frame (List ℕ) Update
    pub at : At b k frame
    pub accepted : AcceptedDocument e
    pub left : Document
    pub call : Call frame e a left

  pub run_made : {o : List ℕ} {d last e : Document} {calls : List Called} {i k : ℕ} {a : Reply} → AcceptedDocument d →
      Run b o d calls last → At calls i (called k e a) → Made k e a
  run_made accepted (next at call rest) here = record { frame = _; at = at; accepted = accepted; left = _; call = call }
  run_made accepted (next at call rest) (there p) = run_made (stays accepted at call) rest p
  run_made {e = e} {i = i} {k = k} {a = a} accepted (over {d = d}) x11 = elim x11 [ ]

  -- the frame of a place is known
  pub made_frame : {k : ℕ} {e : Document} {a : Reply} {f : Frame (List ℕ) Update} (m : Made k e a) → At b k f → Call f e a m.left
  made_frame {e = e} {a = a} m at = subst (λ (g : Frame (List ℕ) Update). Call g e a m.left) (at_one m.at at) m.call

  pub run_works : {o : List ℕ} {d last e : Document} {calls : List Called} {i k : ℕ} {a : Reply} {f : Frame (List ℕ) Update} → AcceptedDocument d →
      Run b o d calls last → At calls i (called k e a) → At b k f → Works f a
  run_works accepted run p at =
      let m = run_made accepted run p in
      call_works m.accepted (callable.fit at) (made_frame m at)

  -- an insert is refused for identities exactly where the document that it met has too few, and for room exactly where it has enough of them and the copies do not fit
  pub run_identities : {o : List ℕ} {d last e : Document} {calls : List Called} {i k : ℕ} {a : Reply} {p x : List ℕ} → AcceptedDocument d →
      Run b o d calls last → At calls i (called k e a) → At b k (update (insert p x)) → NoIdentities a ↔ (nameable p x e ≡ false)
  run_identities accepted run p at =
      let m = run_made accepted run p in
      no_identities_exactly m.accepted (callable.fit at) (made_frame m at)

  pub run_room : {o : List ℕ} {d last e : Document} {calls : List Called} {i k : ℕ} {a : Reply} {p x : List ℕ} → AcceptedDocument d →
      Run b o d calls last → At calls i (called k e a) → At b k (update (insert p x)) → NoRoom a ↔ ((nameable p x e ≡ true) × (fits_in p x e ≡ false))
  run_room accepted run p at =
      let m = run_made accepted run p in
      no_room_exactly m.accepted (callable.fit at) (made_frame m at)

-- in every order there is a run, since calls always answer
pub run_some : (b : List (Frame (List ℕ) Update)) (o : List ℕ) (d : Document) → ((p k : ℕ) → At o p k → k < length b) → Runs b o d
run_some b [] d only = record { calls = []; last = d; run = over }
run_some b (k ∷ o) d only = by_kind b k (only 0 k here) (λ r at. go at (λ e. run_some b o e behind)) (λ u at. go at (λ e. run_some b o e behind))
  where
    behind : (p i : ℕ) → At o p i → i < length b
    behind p i at = only (suc p) i (there at)

    go : {f : Frame (List ℕ) Update} → At b k f → ((e : Document) → Runs b o e) → Runs b (k ∷ o) d
    go {f} at more =
        let one = answers f d in
        let rest = more one.left in
        record { calls = called k d one.answer ∷ rest.calls; last = rest.last; run = next at one.call rest.run }
