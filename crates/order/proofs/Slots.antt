-- A read's slot: it depends on the updates before the read only, and no earlier update that conflicts comes after the update of the slot.
use Prim.Native.Nat.{ℕ, zero, suc, ◌<◌, ◌≤◌}
use native.Mathlib.Omega.{arith}
use native.Mathlib.Decide.{le_ind}
use mathlib.Core.Path.{◌≡◌, refl, sym, ◌∙◌, subst}
use mathlib.Core.Bool.{Bool, true, false, cond, false≢true}
use mathlib.Core.List.{List, [], ◌∷◌, ◌++◌}
use mathlib.Core.Logic.{◌≢◌}
use lib.ListN.{length, length-append}
use Rattle.order.specs.Model.{nearest, slot}
use Rattle.order.specs.Frames.{Frame, read, update, At, here, there, updates, updates_at, earlier, number}
use Rattle.order.proofs.Places.{at_one, by_kind, not_both}

either_most : (t : Bool) {x y most : ℕ} → x ≤ most → y ≤ most → cond t x y ≤ most
either_most true h k = h
either_most false h k = k

nearest_most : {Update : Type 0} (meant : Update → Bool) (us : List Update) → nearest meant us ≤ length us
unfolding nearest
nearest_most meant [] = omega arith
nearest_most meant (u ∷ us) = either_most (meant u) (omega arith) (omega (arith, nearest_most meant us))

module _ {Read Update : Type 0} where
  -- batches that agree on a read and on the updates before it give it the same slot, whatever the other reads are
  pub slot_same : (conflicts : Read → Update → Bool) (b c : List (Frame Read Update)) (k l : ℕ) (r : Read)
      → earlier b k ≡ earlier c l → slot conflicts b k r ≡ slot conflicts c l r
  unfolding slot
  slot_same conflicts b c k l r same = rw same

  earlier_more : (b : List (Frame Read Update)) {i j : ℕ} → i ≤ j → length (earlier b i) ≤ length (earlier b j)
  unfolding earlier
  earlier_more b {i} {j} h =
      le_ind (λ m. length (earlier b i) ≤ length (earlier b m)) (omega arith)
      (λ m a rest. omega (arith, length-append (updates_at b m) (earlier b m)))
      j h

  -- the update of a read's slot stands before the read, and so does every update with a lesser number
  pub slot-before : (conflicts : Read → Update → Bool) (b : List (Frame Read Update)) (i j : ℕ) (r : Read)
      → number b j ≤ slot conflicts b i r → j < i
  unfolding number slot
  slot-before conflicts b i j r e =
      let late : ¬ (i ≤ j) = λ h. omega (arith, nearest_most (conflicts r) (earlier b i), earlier_more b h) in
      omega arith

  updates_at_lem : {b : List (Frame Read Update)} {k : ℕ} {f : Frame Read Update} → At b k f → updates_at b k ≡ updates f
  unfolding updates_at
  updates_at_lem here = refl
  updates_at_lem (there p) = updates_at_lem p

  earlier-next : {b : List (Frame Read Update)} {k : ℕ} {f : Frame Read Update} → At b k f → earlier b (suc k) ≡ updates f ++ earlier b k
  unfolding earlier
  earlier-next p = rw (updates_at_lem p)

  -- the update of the slot of a read at i that conflicts with the update at j: it stands at j or after
  pub record Found (meant : Update → Bool) (b : List (Frame Read Update)) (i j : ℕ) : Type 0 where
    pub frame : ℕ
    pub what : Update
    pub at : At b frame (update what)
    pub late : j ≤ frame
    pub named : number b frame ≡ nearest meant (earlier b i)

  module _ (meant : Update → Bool) {b : List (Frame Read Update)} {j : ℕ} {u : Update} (at : At b j (update u)) (hit : meant u ≡ true) where
    -- frame i is not meant, so the search goes on before it
    further : (i : ℕ) (f : Frame Read Update) → At b i f → nearest meant (updates f ++ earlier b i) ≡ nearest meant (earlier b i)
        → (f ≡ update u → ⊥) → j < suc i → (j < i → Found meant b i j) → Found meant b (suc i) j
    further i f p same other k rest =
        let elsewhere : j ≢ i = λ e. other (at_one p (subst (λ (n : ℕ). At b n (update u)) e at)) in
        let before : Found meant b i j = rest (omega arith) in
        record { frame = before.frame; what = before.what; at = before.at; late = before.late; named = rw (earlier-next p) (before.named ∙ sym same) }

    found_next : (i : ℕ) (w : Update) → At b i (update w) → j < suc i → (j < i → Found meant b i j) → Found meant b (suc i) j
    unfolding nearest number
    found_next i w p k rest = go (meant w) refl
      where
        go : (t : Bool) → meant w ≡ t → Found meant b (suc i) j
        go true e = record { frame = i; what = w; at = p; late = omega arith; named = rw (earlier-next p, e) }
        go false e = further i (update w) p (rw e) (λ q. false≢true (cc (e, q, hit))) k rest

    -- an update at j that is meant is found from i on, or a later one is
    pub found : (i : ℕ) → i ≤ length b → j < i → Found meant b i j
    found zero h k = absurd (omega arith)
    found (suc i) h k =
        by_kind b i h
        (λ r p. further i (read r) p refl not_both k (found i (omega arith)))
        (λ w p. found_next i w p k (found i (omega arith)))
