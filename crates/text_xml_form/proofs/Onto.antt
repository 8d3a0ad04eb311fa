-- What takes the numbers below n to numbers below n, and no two to one, reaches all of them.
use Prim.Native.Nat.{ℕ, zero, suc, pred, ◌<◌}
use mathlib.Core.Path.{◌≡◌, refl, sym, ap, ◌∙◌}
use mathlib.Core.Bool.{Bool, true, false, cond}
use mathlib.Core.Logic.{◌⊎◌, inl, inr, ⊎_elim}
use native.Mathlib.Decide.{ℕ_discrete}
use native.Mathlib.Omega.{arith}
use lib.Dec.{ltb}
use borrow.Author.Tests.{ltb-true, ltb-false}
use Rattle.selection.proofs.Lists.{below_suc}

-- f takes the numbers below n to numbers below m, and no two to one
pub record Into (f : ℕ → ℕ) (n m : ℕ) : Type 0 where
  pub low : (k : ℕ) → k < n → f k < m
  pub once : (j k : ℕ) → j < k → k < n → f j ≡ f k → ⊥

-- the numbers but w, closed up
closed : ℕ → ℕ → ℕ
closed w x = cond (ltb w x) (pred x) x

closed_low : (w x n : ℕ) → w < suc n → x < suc n → (x ≡ w → ⊥) → closed w x < n
unfolding closed
closed_low w x n a b h = go (ltb w x) refl
  where
    go : (t : Bool) → ltb w x ≡ t → cond t (pred x) x < n
    go true e = let l : pred x < n = omega (arith, ltb-true w x e) in l
    go false e = omega (arith, ltb-false w x e)

closed_once : (w x y : ℕ) → (x ≡ w → ⊥) → (y ≡ w → ⊥) → closed w x ≡ closed w y → x ≡ y
unfolding closed
closed_once w x y a b = go (ltb w x) (ltb w y) refl refl
  where
    go : (s t : Bool) → ltb w x ≡ s → ltb w y ≡ t → cond s (pred x) x ≡ cond t (pred y) y → x ≡ y
    go true true p q e = let l : pred x ≡ pred y = e in omega (arith, ltb-true w x p, ltb-true w y q)
    go true false p q e = let l : pred x ≡ y = e in omega (arith, ltb-true w x p, ltb-false w y q)
    go false true p q e = let l : x ≡ pred y = e in omega (arith, ltb-false w x p, ltb-true w y q)
    go false false p q e = e

-- a number that none is taken to is closed up
closed_into : (f : ℕ → ℕ) (n m w : ℕ) → w < suc m → Into f n (suc m) → ((k : ℕ) → k < n → f k ≡ w → ⊥) → Into (λ k. closed w (f k)) n m
closed_into f n m w h a never = record {
  low = λ k l. closed_low w (f k) m h (a.low k l) (never k l);
  once = λ j k l r e. a.once j k l r (closed_once w (f j) (f k) (never j (omega arith)) (never k r) e);
}

-- there is no room for one more
too_many : (m : ℕ) (f : ℕ → ℕ) → Into f (suc m) m → ⊥
too_many zero f a = omega (arith, a.low 0 (omega arith))
too_many (suc m) f a =
    let w = f (suc m) in
    let before : Into f (suc m) (suc m) = record { low = λ k h. a.low k (omega arith); once = λ j k h l. a.once j k h (omega arith) } in
    too_many m (λ k. closed w (f k)) (closed_into f (suc m) m w (a.low (suc m) (omega arith)) before (λ k h. a.once k (suc m) h (omega arith)))

-- w is reached
pub record Reached (f : ℕ → ℕ) (n w : ℕ) : Type 0 where
  pub from : ℕ
  pub below : from < n
  pub is : f from ≡ w

sought : (f : ℕ → ℕ) (w n : ℕ) → Reached f n w ⊎ ((k : ℕ) → k < n → f k ≡ w → ⊥)
sought f w zero = inr (λ k h e. omega arith)
sought f w (suc n) = go (ℕ_discrete (f n) w) (sought f w n)
  where
    go : Dec (f n ≡ w) → Reached f n w ⊎ ((k : ℕ) → k < n → f k ≡ w → ⊥) → Reached f (suc n) w ⊎ ((k : ℕ) → k < suc n → f k ≡ w → ⊥)
    go (yes e) s = inl (record { from = n; below = omega arith; is = e })
    go (no e) (inl r) = inl (record { from = r.from; below = omega arith; is = r.is })
    go (no e) (inr never) = inr (λ k h q. below_suc k n h (λ l. never k l q) (λ g. e (sym (ap f g) ∙ q)))

pub onto : (n : ℕ) (f : ℕ → ℕ) → Into f n n → (w : ℕ) → w < n → Reached f n w
onto zero f a w h = absurd (omega arith)
onto (suc n) f a w h = ⊎_elim (λ r. r) (λ never. absurd (too_many n (λ k. closed w (f k)) (closed_into f (suc n) n w h a never))) (sought f w (suc n))
