-- The search for a slot: from the nearest earlier update backwards, none that is related to the read is passed over.
use Prim.Native.Nat.{ℕ, suc, ◌+◌, ◌-◌, ◌<◌, ◌≤◌}
use mathlib.Core.Path.{◌≡◌, refl, sym, ◌∙◌, ap, subst}
use mathlib.Core.Bool.{Bool, true, false, false≢true}
use mathlib.Core.List.{List}
use mathlib.Core.Logic.{◌↔◌, ◌≢◌}
use native.Mathlib.Decide.{dec_lt}
use native.Mathlib.Numerals.{add-one}
use native.Mathlib.Omega.{arith}
use lib.ListN.{length, get_or, set}
use lib.Seq.{get_or-set_same, get_or-set_other}
use Rattle.conflict.specs.Conflict.{Update}
use Rattle.order.specs.Frames.{read, update, At, earlier, number}
use Rattle.batch_check.specs.Batches.{pattern_of, update_of, batch_of}
use Rattle.batch_plan.specs.Batch.{SlotIs}
use Rattle.batch_plan.specs.Walking.{Standing, Updating}
use Rattle.batch_judge.specs.Judging.{Clash}
use Rattle.batch_plan.proofs.Judged.{told}
use Rattle.batch_plan.proofs.Numbers.{earlier-next, earlier-within, number-before, number_one}

-- at this place of the batch stands the update of this number, and it comes before frame k
pub record Note (b : List ℕ) (k at w : ℕ) : Type 0 where
  pub frame : ℕ
  pub there : At (batch_of b) frame (update (update_of b at))
  pub before : frame < k
  pub numbered : number (batch_of b) frame ≡ w
  pub updating : Updating b at

-- the places of the m updates before frame k, from number 1 on
pub record Noted (b : List ℕ) (k : ℕ) (places : List ℕ) (m : ℕ) : Type 0 where
  pub count : m ≡ length (earlier (batch_of b) k)
  pub each : (i : ℕ) → i < m → Note b k (get_or places i 0) (suc i)

-- of the m updates before frame k, those with a number above j are not related to r
pub record Searched (Related : List ℕ → Update → Type 0) (b : List ℕ) (k : ℕ) (r : List ℕ) (m j : ℕ) : Type 0 where
  pub within : j ≤ m
  pub greatest : {i : ℕ} {u : Update} → At (batch_of b) i (update u) → i < k → Related r u → number (batch_of b) i ≤ j

-- the search ends at the slot, which is no more than the number of updates
pub record Slotted (Related : List ℕ → Update → Type 0) (b : List ℕ) (k : ℕ) (r : List ℕ) (m w : ℕ) : Type 0 where
  pub most : w ≤ m
  pub slot : SlotIs Related (batch_of b) k r w

pub no_updates : (b places : List ℕ) → Noted b 0 places 0
unfolding earlier
no_updates b places = record { count = refl; each = λ i h. absurd (omega arith) }

pub noted-within : {b : List ℕ} {k : ℕ} {places : List ℕ} {m : ℕ} → Noted b k places m → m ≤ k
noted-within {b} {k} n = omega (arith, n.count, earlier-within (batch_of b) k)

later : {b : List ℕ} {k at w : ℕ} → Note b k at w → Note b (k + 1) at w
later n = record { frame = n.frame; there = n.there; before = omega (arith, n.before); numbered = n.numbered; updating = n.updating }

-- a read is no update
pub noted_read : {b : List ℕ} {k : ℕ} {places : List ℕ} {m : ℕ} {r : List ℕ} → At (batch_of b) k (read r) → Noted b k places m → Noted b (k + 1) places m
noted_read p n = record { count = rw (add-one, earlier-next p) n.count; each = λ i h. later (n.each i h) }

-- an update is noted with the next number
pub noted_update : {b : List ℕ} {k at : ℕ} {places : List ℕ} {m : ℕ} → At (batch_of b) k (update (update_of b at)) → Updating b at → m < length places
    → Noted b k places m → Noted b (k + 1) (set places m at) (m + 1)
unfolding number
noted_update {b} {k} {at} {places} {m} p here long n = record { count = rw (add-one k, add-one m, earlier-next p) (ap suc n.count); each = each }
  where
    one : Note b (k + 1) at (suc m)
    one = record { frame = k; there = p; before = omega arith; numbered = ap suc (sym n.count); updating = here }

    go : (i : ℕ) → i < m + 1 → Dec (i < m) → Note b (k + 1) (get_or (set places m at) i 0) (suc i)
    go i h (yes l) = rw (get_or-set_other places m i at 0 (λ e. omega arith)) (later (n.each i l))
    go i h (no l) =
        let same : i ≡ m = omega arith in
        rw (same, get_or-set_same places m at 0 long) one

    each : (i : ℕ) → i < m + 1 → Note b (k + 1) (get_or (set places m at) i 0) (suc i)
    each i h = go i h (dec_lt i m)

module _ {Related : List ℕ → Update → Type 0} {b : List ℕ} {k : ℕ} {r : List ℕ} {m : ℕ} where
  -- at first all updates before the read are left
  pub search_start : {places : List ℕ} → Noted b k places m → Searched Related b k r m m
  search_start n = record { within = omega arith; greatest = λ p h c. omega (arith, n.count, number-before p h) }

  -- no update is left
  pub search_none : {j w : ℕ} → Searched Related b k r m j → j ≡ 0 → w ≡ 0 → Slotted Related b k r m w
  search_none s e z = record {
    most = omega arith;
    slot = record { some = λ h. absurd (omega arith); greatest = λ p h c. omega (arith, s.greatest p h c) };
  }

-- the search of a read, at an update of which it is told whether they clash
module _ {Related : List ℕ → Update → Type 0} {b : List ℕ} {k at m j : ℕ} (here : Standing b at) (s : Searched Related b k (pattern_of b at) m j) (some : j ≡ 0 → ⊥) {places : List ℕ} (n : Noted b k places m)
    {c : Bool} (clash : (c ≡ true) ↔ Clash Related (pattern_of b at) (update_of b (get_or places (j - 1) 0))) where
  note : Note b k (get_or places (j - 1) 0) j
  note =
      let same : suc (j - 1) ≡ j = omega arith in
      rw same at (n.each (j - 1) (omega (arith, s.within)))

  tells : (c ≡ true) ↔ Related (pattern_of b at) (update_of b (get_or places (j - 1) 0))
  tells = told b here note.updating clash

  -- the update that is looked at is related: it is the nearest
  pub search_hit : {w : ℕ} → c ≡ true → w ≡ j → Slotted Related b k (pattern_of b at) m w
  search_hit e is = record {
    most = omega (arith, s.within);
    slot = record {
      some = λ h. record {
        frame = note.frame;
        what = update_of b (get_or places (j - 1) 0);
        at = note.there;
        earlier = note.before;
        related = tells.0 e;
        numbered = note.numbered ∙ sym is;
      };
      greatest = λ p h d. omega (arith, s.greatest p h d);
    };
  }

  -- it does not: one less is left
  pub search_on : c ≡ false → Searched Related b k (pattern_of b at) m (j - 1)
  search_on e = record { within = omega (arith, s.within); greatest = less }
    where
      other : {i : ℕ} {u : Update} → At (batch_of b) i (update u) → Related (pattern_of b at) u → number (batch_of b) i ≢ j
      other p d q =
          let one = number_one p note.there (q ∙ sym note.numbered) in
          false≢true (sym e ∙ tells.1 (subst (λ u. Related (pattern_of b at) u) one d))

      less : {i : ℕ} {u : Update} → At (batch_of b) i (update u) → i < k → Related (pattern_of b at) u → number (batch_of b) i ≤ j - 1
      less p h d = let off = other p d in omega (arith, s.greatest p h d)
