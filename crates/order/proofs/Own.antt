-- Orders that there are: every batch's own order, and one in which a read goes before an update that it does not conflict with.
use Prim.Native.Nat.{ℕ, zero, suc, ◌+◌, ◌<◌, ◌≤◌}
use native.Mathlib.Omega.{arith}
use native.Mathlib.Nat.{zero-add, add-zero, add-suc, suc-add}
use mathlib.Core.Path.{◌≡◌, refl, sym}
use mathlib.Core.Bool.{Bool, true, false, cond, false≢true}
use mathlib.Core.List.{List, [], ◌∷◌}
use lib.ListN.{length}
use Rattle.order.specs.Model.{nearest, slot, Order}
use Rattle.order.specs.Frames.{Frame, read, update, At, here, there, updates_at, earlier, number}
use Rattle.order.specs.Order.{Stands, Before, count_up, own}
use Rattle.order.proofs.Places.{at_below}
use Rattle.order.proofs.Slots.{slot-before}

-- at place p of n numbers from k on stands k + p
record Counted (k n p i : ℕ) : Type 0 where
  value : i ≡ k + p
  below : p < n

counted : (k n : ℕ) {p i : ℕ} → At (count_up k n) p i → Counted k n p i
unfolding count_up
counted k zero q = absurd (omega (arith, at_below q))
counted k (suc n) here = record { value = omega arith; below = omega arith }
counted k (suc n) (there q) = omega (arith, counted (suc k) n q)

count_at : (k n p : ℕ) → p < n → At (count_up k n) p (k + p)
unfolding count_up
count_at k zero p h = absurd (omega arith)
count_at k (suc n) zero h = rw (add-zero k) here
count_at k (suc n) (suc p) h = rw (add-suc k p, ← suc-add k p) (there (count_at (suc k) n p (omega arith)))

module _ {Read Update : Type 0} where
  -- the batch's own order keeps to any slots
  pub own_order : (conflicts : Read → Update → Bool) (b : List (Frame Read Update)) → Order conflicts b (own b)
  unfolding own
  own_order conflicts b = record {
    every = λ k h. record { place = k; there = rw (zero-add k) at (count_at 0 (length b) k h) };
    once = λ p q. omega (arith, counted 0 (length b) p, counted 0 (length b) q);
    only = λ p. omega (arith, counted 0 (length b) p);
    in_sequence = λ p q h. rising (omega arith);
    after_slot = λ {i} {j} {r} p q e. rising (slot-before conflicts b i j r (omega arith));
    before_later = λ p q h. rising (omega arith);
  }
    where
      rising : {i j : ℕ} → i < j → Before (count_up 0 (length b)) i j
      rising h = record { before = λ p q. omega (arith, counted 0 (length b) p, counted 0 (length b) q) }

  -- a read that does not conflict with the update before it may go first
  pub read_first : (conflicts : Read → Update → Bool) (u : Update) (r : Read) → conflicts r u ≡ false
      → Order conflicts (update u ∷ read r ∷ []) (1 ∷ 0 ∷ [])
  unfolding number slot nearest earlier updates_at
  read_first conflicts u r clear = record {
    every = every;
    once = λ p q. omega (arith, turned p, turned q);
    only = λ p. omega (arith, turned p);
    in_sequence = λ p q h. absurd (omega (arith, first p, first q));
    after_slot = λ p q e. absurd (no_slot p q (omega arith));
    before_later = λ p q h. absurd (omega (arith, first q));
  }
    where
      every : (k : ℕ) → k < 2 → Stands (1 ∷ 0 ∷ []) k
      every zero h = record { place = 1; there = there here }
      every (suc zero) h = record { place = 0; there = here }
      every (suc (suc k)) h = absurd (omega arith)

      turned : {p k : ℕ} → At (1 ∷ 0 ∷ []) p k → p + k ≡ 1
      turned here = refl
      turned (there here) = refl
      turned (there (there q)) = absurd (omega (arith, at_below q))

      first : {k : ℕ} {w : Update} → At (update u ∷ read r ∷ []) k (update w) → k ≡ 0
      first here = refl
      first (there (there q)) = absurd (omega (arith, at_below q))

      no_number : (t : Bool) → t ≡ false → ◌≡◌ {A = ℕ} (cond t 1 0) 0
      no_number false h = refl
      no_number true h = absurd (false≢true (sym h))

      no_slot : {i j : ℕ} {s : Read} {w : Update} → At (update u ∷ read r ∷ []) i (read s) → At (update u ∷ read r ∷ []) j (update w)
          → number (update u ∷ read r ∷ []) j ≤ slot conflicts (update u ∷ read r ∷ []) i s → ⊥
      no_slot (there here) here e = omega (arith, no_number (conflicts r u) clear)
      no_slot (there (there p)) q e = absurd (omega (arith, at_below p))
      no_slot (there here) (there (there q)) e = absurd (omega (arith, at_below q))
