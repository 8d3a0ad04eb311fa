-- Counting in rising number, one number a turn.
use Prim.Native.Nat.{ℕ, zero, suc, ◌+◌, ◌<◌, ◌≤◌}
use mathlib.Core.Path.{◌≡◌, refl}
use mathlib.Core.Bool.{Bool, true, false, cond}
use native.Mathlib.Numerals.{add-one}
use native.Mathlib.Omega.{arith}
use Rattle.selection.specs.Lists.{rising, count}

module _ (f : ℕ → Bool) where
  pub count_start : 0 ≡ count f 0
  unfolding count
  count_start = refl

  module _ {n : ℕ} (v : ℕ) (e : n ≡ count f v) where
    pub count-on : {one : ℕ} → one ≡ cond (f v) 1 0 → n + one ≡ count f (v + 1)
    unfolding count
    count-on {one} h = rw add-one (go (f v) h)
      where
        go : (b : Bool) → one ≡ cond b 1 0 → n + one ≡ cond b (suc (count f v)) (count f v)
        go true w = omega arith
        go false w = omega arith

    pub count_end : (used : ℕ) → v ≤ used → used ≤ v → n ≡ count f used
    count_end used h l =
        let same : used ≡ v = omega arith in
        rw same e

-- tests that agree below n list the same numbers
pub rising_ext : (f g : ℕ → Bool) (n : ℕ) → ((i : ℕ) → i < n → f i ≡ g i) → rising f n ≡ rising g n
unfolding rising
rising_ext f g zero h = refl
rising_ext f g (suc n) h = rw (rising_ext f g n (λ i l. h i (omega arith)), h n (omega arith))
