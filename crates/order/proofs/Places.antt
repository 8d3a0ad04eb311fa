-- Places in a list: one element at each; and in a batch, at every place below the length, a read or an update and not both.
use Prim.Native.Nat.{ℕ, zero, suc, ◌<◌}
use native.Mathlib.Omega.{arith}
use mathlib.Core.Path.{◌≡◌, refl, subst}
use mathlib.Core.List.{List, [], ◌∷◌}
use mathlib.Core.Logic.{◌≢◌}
use lib.ListN.{length}
use Rattle.order.specs.Frames.{Frame, read, update, At, here, there}

module _ {A : Type 0} where
  pub at_one : {l : List A} {k : ℕ} {a c : A} → At l k a → At l k c → a ≡ c
  at_one here here = refl
  at_one (there p) (there q) = at_one p q

  pub at_below : {l : List A} {k : ℕ} {a : A} → At l k a → k < length l
  at_below here = omega arith
  at_below (there p) = omega (arith, at_below p)

module _ {Read Update : Type 0} where
  -- a frame is a read or an update
  pub by_kind : {X : Type 0} (b : List (Frame Read Update)) (k : ℕ) → k < length b
      → ((r : Read) → At b k (read r) → X) → ((u : Update) → At b k (update u) → X) → X
  by_kind [] k h f g = absurd (omega arith)
  by_kind (read r ∷ b) zero h f g = f r here
  by_kind (update u ∷ b) zero h f g = g u here
  by_kind (c ∷ b) (suc k) h f g = by_kind b k (omega arith) (λ r p. f r (there p)) (λ u p. g u (there p))

  -- and not both
  pub not_both : {r : Read} {u : Update} → ◌≡◌ {A = Frame Read Update} (read r) (update u) → ⊥
  not_both e = let z : ◌≡◌ {A = ℕ} 0 1 = cc in omega arith

  pub apart : {b : List (Frame Read Update)} {i j : ℕ} {r : Read} {u : Update} → At b i (read r) → At b j (update u) → i ≢ j
  apart {b} {r} p q e = not_both (at_one (subst (λ (n : ℕ). At b n (read r)) e p) q)
