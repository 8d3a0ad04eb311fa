-- The slot of a read by a relation, and the slot that a test finds.
use Prim.Native.Nat.{ℕ, zero, suc, ◌<◌, ◌≤◌}
use mathlib.Core.Path.{◌≡◌, refl}
use mathlib.Core.Bool.{Bool, true, false}
use mathlib.Core.List.{List}
use mathlib.Core.Logic.{◌↔◌}
use native.Mathlib.Decide.{dec_lt}
use native.Mathlib.Nat.{le_antisymm}
use native.Mathlib.Omega.{arith}
use lib.ListN.{length}
use Rattle.conflict.specs.Conflict.{Update}
use Rattle.order.specs.Model.{nearest, slot, Fits}
use Rattle.order.specs.Frames.{Frame, read, update, At, earlier, number}
use Rattle.order.specs.Fitting.{FitFrame, DecidedBy}
use Rattle.order.proofs.Places.{at_below, by_kind}
use Rattle.order.proofs.Slots.{found}
use Rattle.batch_plan.specs.Batch.{EarlierRelated, SlotIs}
use Rattle.batch_plan.proofs.Numbers.{earlier-next, number_rises}

-- where each earlier update that is related to one read stands for one, of the same number, that is related to another read, the other read's slot is no less
pub slot_no_less : {One Other : List ℕ → Update → Type 0} {b c : List (Frame (List ℕ) Update)} {k l : ℕ} {r s : List ℕ} {v w : ℕ} → SlotIs One b k r v → SlotIs Other c l s w
    → ((j : ℕ) (u : Update) → At b j (update u) → j < k → One r u → EarlierRelated Other c l s (number b j)) → v ≤ w
slot_no_less {v} {w} one other stands = go (dec_lt 0 v)
  where
    go : Dec (0 < v) → v ≤ w
    go (yes some) =
        let found = one.some some in
        let there = stands found.frame found.what found.at found.earlier found.related in
        omega (arith, other.greatest there.at there.earlier there.related, there.numbered, found.numbered)
    go (no none) = omega arith

-- so where a relation holds only where another does, its slots are no greater
pub slot_implied : {One Other : List ℕ → Update → Type 0} {b : List (Frame (List ℕ) Update)} {k : ℕ} {r : List ℕ} {v w : ℕ} → ((u : Update) → One r u → Other r u)
    → SlotIs One b k r v → SlotIs Other b k r w → v ≤ w
slot_implied implies one other =
    slot_no_less one other (λ j u at before related. record { frame = j; what = u; at = at; earlier = before; related = implies u related; numbered = refl })

-- a read has one slot
pub slot_one : {Related : List ℕ → Update → Type 0} {b : List (Frame (List ℕ) Update)} {k : ℕ} {r : List ℕ} {v w : ℕ} → SlotIs Related b k r v → SlotIs Related b k r w → v ≡ w
slot_one s t = le_antisymm (slot_implied (λ u related. related) s t) (slot_implied (λ u related. related) t s)

-- an update before frame k that a test means, and its number
record Hit (meant : Update → Bool) (b : List (Frame (List ℕ) Update)) (k w : ℕ) : Type 0 where
  frame : ℕ
  what : Update
  at : At b frame (update what)
  before : frame < k
  hits : meant what ≡ true
  numbered : number b frame ≡ w

module _ (meant : Update → Bool) (b : List (Frame (List ℕ) Update)) where
  later : {k w : ℕ} → Hit meant b k w → Hit meant b (suc k) w
  later h = record { frame = h.frame; what = h.what; at = h.at; before = omega (arith, h.before); hits = h.hits; numbered = h.numbered }

  -- where the search finds a number, it is that of an update that is meant
  hit : (k : ℕ) → k ≤ length b → 0 < nearest meant (earlier b k) → Hit meant b k (nearest meant (earlier b k))
  unfolding nearest earlier number
  hit zero h s = absurd (omega arith)
  hit (suc k) h s =
      by_kind b k h
      (λ r p. rw (earlier-next p) (later (hit k (omega arith) (rw (earlier-next p) at s))))
      (λ u p. go u p (meant u) refl (hit k (omega arith)))
    where
      go : (u : Update) → At b k (update u) → (t : Bool) → meant u ≡ t
          → (0 < nearest meant (earlier b k) → Hit meant b k (nearest meant (earlier b k))) → Hit meant b (suc k) (nearest meant (earlier b (suc k)))
      go u p true e rest = record { frame = k; what = u; at = p; before = omega arith; hits = e; numbered = rw (earlier-next p, e) }
      go u p false e rest = rw (earlier-next p, e) (later (rest (rw (earlier-next p, e) at s)))

-- a test that decides the relation finds the slot
module _ {Related : List ℕ → Update → Type 0} {test : List ℕ → Update → Bool} (decides : DecidedBy Related test) {b : List (Frame (List ℕ) Update)} (fits : Fits FitFrame b)
    {k : ℕ} {r : List ℕ} (at : At b k (read r)) where
  pub slot_is : SlotIs Related b k r (slot test b k r)
  unfolding slot
  slot_is = record { some = some; greatest = greatest }
    where
      some : 0 < nearest (test r) (earlier b k) → EarlierRelated Related b k r (nearest (test r) (earlier b k))
      some h =
          let s = hit (test r) b k (omega (arith, at_below at)) h in
          record {
            frame = s.frame;
            what = s.what;
            at = s.at;
            earlier = s.before;
            related = (decides.exactly (fits.fit at) (fits.fit s.at)).0 s.hits;
            numbered = s.numbered;
          }

      greatest : {j : ℕ} {u : Update} → At b j (update u) → j < k → Related r u → number b j ≤ nearest (test r) (earlier b k)
      greatest {j} p h c =
          let s = found (test r) p ((decides.exactly (fits.fit at) (fits.fit p)).1 c) k (omega (arith, at_below at)) h in
          omega (arith, number_rises b s.late, s.named)

  -- so the slot by the relation is the slot of demand 3
  pub slot_exactly : (w : ℕ) → SlotIs Related b k r w ↔ (w ≡ slot test b k r)
  slot_exactly w = (λ s. slot_one s slot_is, λ e. rw e slot_is)
