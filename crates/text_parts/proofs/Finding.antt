-- What is left of the bytes decides where the next one stands.
use Prim.Native.Nat.{ℕ, zero, suc, ◌+◌, ◌-◌, ◌≤◌, ◌<◌}
use mathlib.Core.Path.{◌≡◌, refl, sym, ◌∙◌}
use mathlib.Core.Bool.{Bool, true, false, cond}
use mathlib.Core.List.{List}
use native.Mathlib.Numerals.{add-one}
use native.Mathlib.Omega.{arith}
use lib.Dec.{eqb}
use lib.ListN.{length, get_or}
use borrow.Author.Tests.{eq-eqb, ne_eqb}
use Rattle.text_parts.specs.Next.{next_from, next}

module _ (c : ℕ) (s : List ℕ) (at : ℕ) where
  pub next_start : next c s at ≡ next_from c s at (length s - at)
  unfolding next
  next_start = refl

  module _ (k : ℕ) (e : next c s at ≡ next_from c s k (length s - k)) where
    pub next_found : k < length s → {b : ℕ} → b ≡ get_or s k 0 → b ≡ c → k ≡ next c s at
    unfolding next_from
    next_found h is ten =
        let more : length s - k ≡ suc (length s - (k + 1)) = omega arith in
        let here : eqb (get_or s k 0) c ≡ true = eq-eqb (get_or s k 0) c (sym is ∙ ten) in
        sym (e ∙ rw (more, here))

    pub next-on : k < length s → {b : ℕ} → b ≡ get_or s k 0 → (b ≡ c → ⊥) → next c s at ≡ next_from c s (k + 1) (length s - (k + 1))
    unfolding next_from
    next-on h is other =
        let more : length s - k ≡ suc (length s - (k + 1)) = omega arith in
        let here : eqb (get_or s k 0) c ≡ false = ne_eqb (get_or s k 0) c (λ ten. other (is ∙ ten)) in
        e ∙ rw (more, here, add-one)

    pub next_none : length s ≤ k → k ≡ next c s at
    unfolding next_from
    next_none h =
        let none : length s - k ≡ 0 = omega arith in
        sym (e ∙ rw none)

module _ (c : ℕ) (s : List ℕ) where
  pub from_least : (at left : ℕ) → at ≤ next_from c s at left
  unfolding next_from
  from_least at zero = omega arith
  from_least at (suc left) = go (eqb (get_or s at 0) c) (from_least (suc at) left)
    where
      go : (t : Bool) → suc at ≤ next_from c s (suc at) left → at ≤ cond t at (next_from c s (suc at) left)
      go true h = omega arith
      go false h = omega (arith, h)

  from_most : (at left : ℕ) → next_from c s at left ≤ at + left
  unfolding next_from
  from_most at zero = omega arith
  from_most at (suc left) = go (eqb (get_or s at 0) c) (from_most (suc at) left)
    where
      go : (t : Bool) → next_from c s (suc at) left ≤ suc at + left → cond t at (next_from c s (suc at) left) ≤ at + suc left
      go true h = omega arith
      go false h = omega (arith, h)

  -- it stands at or behind the place, and within the text
  pub next-least : (at : ℕ) → at ≤ next c s at
  unfolding next
  next-least at = from_least at (length s - at)

  pub next_most : (at : ℕ) → at ≤ length s → next c s at ≤ length s
  unfolding next
  next_most at h = omega (arith, from_most at (length s - at))
