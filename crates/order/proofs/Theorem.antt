-- Every order that keeps to the slots gives what the batch's own order gives: for any model that keep documents sound and change
-- nothing that is shown to a read without a conflict, whatever that is.
use Prim.Native.Nat.{ℕ, ◌<◌}
use native.Mathlib.Omega.{arith}
use native.Mathlib.Nat.{eq-or-lt_of_le}
use mathlib.Core.Path.{◌≡◌, sym, ◌∙◌, subst}
use mathlib.Core.Bool.{Bool, true}
use mathlib.Core.List.{List}
use mathlib.Core.Logic.{⊎_elim}
use Rattle.order.specs.Model.{slot, Fits, Order, met, Same}
use Rattle.order.specs.Frames.{Frame, read, update, At}
use Rattle.order.specs.Order.{Stands, Before, own}
use Rattle.order.proofs.Places.{at_below}
use Rattle.order.proofs.Slots.{Found, found}
use Rattle.order.proofs.Stages.{stage, met_keeps}
use Rattle.order.proofs.Walking.{Lawful, Arranged, Meets, Gives, sound_kept, walk}
use Rattle.order.proofs.Own.{own_order}

module _ {Read Update : Type 0} {conflicts : Read → Update → Bool} {b : List (Frame Read Update)} {o : List ℕ} (order : Order conflicts b o) where
  -- an earlier update that conflicts is that of the slot or comes before it, so the read runs after it
  after_conflicts : {i j : ℕ} {r : Read} {u : Update} → At b i (read r) → At b j (update u) → j < i → conflicts r u ≡ true → Before o j i
  unfolding slot
  after_conflicts {i} {j} {r} p q h e =
      ⊎_elim
      (λ (same : j ≡ s.frame). subst (λ (k : ℕ). Before o k i) (sym same) after_slot)
      (λ (less : j < s.frame). record {
        before = λ a c.
            omega (arith, (order.in_sequence q s.at less).before a there.there, after_slot.before there.there c);
      })
      (eq-or-lt_of_le s.late)
    where
      s : Found (conflicts r) b i j
      s = found (conflicts r) q e i (omega (arith, at_below p)) h

      after_slot : Before o s.frame i
      after_slot = order.after_slot p s.at s.named

      there : Stands o s.frame
      there = order.every s.frame (at_below s.at)

  arranged : Arranged conflicts b o
  arranged = record {
    once = order.once;
    only = order.only;
    in_sequence = order.in_sequence;
    before_later = order.before_later;
    after_conflicts = after_conflicts;
  }

module _ {Doc Read Update : Type 0} {apply : Update → Doc → Doc} {alike : Read → Doc → Doc → Type 0} {conflicts : Read → Update → Bool}
    {Fit : Frame Read Update → Type 0} {Sound : Doc → Type 0} (laws : Lawful apply alike conflicts Fit Sound)
    {b : List (Frame Read Update)} (fits : Fits Fit b) {d : Doc} (sound : Sound d) where
  -- in an order each frame meets its stage
  gives : {o : List ℕ} → Order conflicts b o → Gives apply alike b d o d
  unfolding stage
  gives {o} order = walk laws fits sound o 0 (arranged order) (record {
    inside = omega arith;
    ahead = λ p. omega arith;
    left = λ {j} p h. order.every j (at_below p);
  })

  meets : {o : List ℕ} → Order conflicts b o → {k : ℕ} {f : Frame Read Update} → At b k f → Meets apply alike b d k (met apply b o d k)
  meets order {k} p = (gives order).meets (order.every k (at_below p))

  -- so each read is shown the same as in the batch's own order, each update meets the same document, and the last document is the same
  pub order_same : {o : List ℕ} → Order conflicts b o → Same apply alike b o d
  order_same {o} order =
      let own : Order conflicts b (own b) = own_order conflicts b in
      record {
        reads = λ p. laws.on ((meets order p).reads p) (laws.back ((meets own p).reads p));
        updates = λ p. (meets order p).updates p ∙ sym ((meets own p).updates p);
        document = (gives order).document ∙ sym (gives own).document;
      }

  -- every document that a frame meets is sound
  pub met_sound : (o : List ℕ) (k : ℕ) → Sound (met apply b o d k)
  met_sound o k = met_keeps apply (sound_kept laws fits) o sound k
