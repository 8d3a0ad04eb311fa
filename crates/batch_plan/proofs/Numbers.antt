-- Numbers of updates: they rise along the batch, and no two updates have the same.
use Prim.Native.Nat.{ℕ, zero, suc, ◌<◌, ◌≤◌}
use mathlib.Core.Path.{◌≡◌, refl, subst}
use mathlib.Core.List.{List, [], ◌∷◌, ◌++◌}
use native.Mathlib.Decide.{le_ind, dec_lt}
use native.Mathlib.Omega.{arith}
use lib.ListN.{length, length-append}
use Rattle.order.specs.Frames.{Frame, read, update, At, here, there, updates, updates_at, earlier, number}
use Rattle.order.proofs.Places.{at_one}

module _ {Read Update : Type 0} where
  updates_at_lem : {b : List (Frame Read Update)} {k : ℕ} {f : Frame Read Update} → At b k f → updates_at b k ≡ updates f
  unfolding updates_at
  updates_at_lem here = refl
  updates_at_lem (there p) = updates_at_lem p

  -- behind frame k its update is the nearest
  pub earlier-next : {b : List (Frame Read Update)} {k : ℕ} {f : Frame Read Update} → At b k f → earlier b (suc k) ≡ updates f ++ earlier b k
  unfolding earlier
  earlier-next p = rw (updates_at_lem p)

  earlier_more : (b : List (Frame Read Update)) {i j : ℕ} → i ≤ j → length (earlier b i) ≤ length (earlier b j)
  unfolding earlier
  earlier_more b {i} {j} h =
      le_ind (λ m. length (earlier b i) ≤ length (earlier b m)) (omega arith)
      (λ m a rest. omega (arith, length-append (updates_at b m) (earlier b m)))
      j h

  at_most_one : (b : List (Frame Read Update)) (k : ℕ) → length (updates_at b k) ≤ 1
  unfolding updates_at
  at_most_one [] k = omega arith
  at_most_one (read r ∷ b) zero = omega arith
  at_most_one (update u ∷ b) zero = omega arith
  at_most_one (f ∷ b) (suc k) = at_most_one b k

  -- there are no more updates than frames
  pub earlier-within : (b : List (Frame Read Update)) (k : ℕ) → length (earlier b k) ≤ k
  unfolding earlier
  earlier-within b zero = omega arith
  earlier-within b (suc k) = omega (arith, length-append (updates_at b k) (earlier b k), at_most_one b k, earlier-within b k)

  pub number_rises : (b : List (Frame Read Update)) {i j : ℕ} → i ≤ j → number b i ≤ number b j
  unfolding number
  number_rises b h = omega (arith, earlier_more b h)

  -- the number of an update before frame j is one of those given out before frame j
  pub number-before : {b : List (Frame Read Update)} {i j : ℕ} {u : Update} → At b i (update u) → i < j → number b i ≤ length (earlier b j)
  unfolding number
  number-before {b} {i} {j} p h =
      let more : length (earlier b (suc i)) ≤ length (earlier b j) = earlier_more b (omega arith) in
      rw (earlier-next p) at more

  -- and none is given out twice
  pub number_one : {b : List (Frame Read Update)} {i j : ℕ} {u w : Update} → At b i (update u) → At b j (update w) → number b i ≡ number b j → u ≡ w
  unfolding number
  number_one {b} {i} {j} {u} {w} p q e = go (dec_lt i j) (dec_lt j i)
    where
      go : Dec (i < j) → Dec (j < i) → u ≡ w
      go (yes h) d = absurd (omega (arith, number-before p h))
      go (no h) (yes l) = absurd (omega (arith, number-before q l))
      go (no h) (no l) =
          let same : i ≡ j = omega arith in
          let one : ◌≡◌ {A = Frame Read Update} (update u) (update w) = at_one (subst (λ (n : ℕ). At b n (update u)) same p) q in
          cc
