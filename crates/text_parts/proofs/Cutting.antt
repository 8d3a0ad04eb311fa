-- The next byte of one kind, seen from the bytes that are left.
use Prim.Native.Nat.{ℕ, zero, suc, ◌+◌, ◌-◌, ◌≤◌}
use mathlib.Core.Path.{◌≡◌}
use mathlib.Core.Bool.{Bool, true, false, cond}
use mathlib.Core.List.{List, [], ◌∷◌}
use native.Mathlib.Omega.{arith}
use lib.Dec.{eqb}
use lib.ListN.{length, get_or, drop, drop_of_length-le}
use lib.Seq.{drop-cons}
use Rattle.text_parts.specs.Next.{next_from, next}

-- how many bytes stand before the first c, or before the end
unfoldable pub up_to : ℕ → List ℕ → ℕ
up_to c [] = 0
up_to c (d ∷ s) = cond (eqb d c) 0 (suc (up_to c s))

pub up_most : (c : ℕ) (s : List ℕ) → up_to c s ≤ length s
unfolding up_to
up_most c [] = omega arith
up_most c (d ∷ s) = go (eqb d c) (up_most c s)
  where
    go : (t : Bool) → up_to c s ≤ length s → cond t 0 (suc (up_to c s)) ≤ suc (length s)
    go true h = omega arith
    go false h = omega (arith, h)

module _ (c : ℕ) (s : List ℕ) where
  from_up : (left at : ℕ) → at + left ≡ length s → next_from c s at left ≡ at + up_to c (drop at s)
  unfolding next_from up_to
  from_up zero at e =
      let none : drop at s ≡ [] = drop_of_length-le s {i = at} (omega (arith, e)) in
      rw none (omega arith)
  from_up (suc left) at e =
      let more : drop at s ≡ get_or s at 0 ∷ drop (suc at) s = drop-cons s at 0 (omega (arith, e)) in
      rw more (go (eqb (get_or s at 0) c) (from_up left (suc at) (omega (arith, e))))
    where
      go : (t : Bool) → next_from c s (suc at) left ≡ suc at + up_to c (drop (suc at) s)
          → cond t at (next_from c s (suc at) left) ≡ at + cond t 0 (suc (up_to c (drop (suc at) s)))
      go true h = omega arith
      go false h = omega (arith, h)

  pub next_up : (at : ℕ) → at ≤ length s → next c s at ≡ at + up_to c (drop at s)
  unfolding next
  next_up at h = from_up (length s - at) at (omega arith)
