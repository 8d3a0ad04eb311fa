-- One digit: the branches of the definitions; a digit's value and its byte tell each other.
use Prim.Native.Nat.{ℕ, ◌+◌, ◌-◌, ◌<◌, ◌≤◌}
use mathlib.Core.Path.{◌≡◌, sym, ◌∙◌}
use native.Mathlib.Decide.{dec_le}
use native.Mathlib.Omega.{arith}
use borrow.Author.Tests.{le-leb, lt-leb}
use Rattle.text_digits.specs.Digits.{digit_of, byte_of}

module _ (c : ℕ) where
  pub digit_low : c < 48 → 16 ≡ digit_of c
  unfolding digit_of
  digit_low h = rw (lt-leb 48 c h, lt-leb 65 c (omega arith))

  pub digit_number : 48 ≤ c → c ≤ 57 → c - 48 ≡ digit_of c
  unfolding digit_of
  digit_number h k = rw (le-leb 48 c h, le-leb c 57 k)

  pub digit_between : 48 ≤ c → 57 < c → c < 65 → 16 ≡ digit_of c
  unfolding digit_of
  digit_between h k l = rw (le-leb 48 c h, lt-leb c 57 k, lt-leb 65 c l)

  pub digit_letter : 48 ≤ c → 57 < c → 65 ≤ c → c ≤ 70 → c - 55 ≡ digit_of c
  unfolding digit_of
  digit_letter h k l m = rw (le-leb 48 c h, lt-leb c 57 k, le-leb 65 c l, le-leb c 70 m)

  pub digit_high : 48 ≤ c → 57 < c → 65 ≤ c → 70 < c → 16 ≡ digit_of c
  unfolding digit_of
  digit_high h k l m = rw (le-leb 48 c h, lt-leb c 57 k, le-leb 65 c l, lt-leb c 70 m)

module _ (d : ℕ) where
  pub byte_number : d ≤ 9 → d + 48 ≡ byte_of d
  unfolding byte_of
  byte_number h = rw (le-leb d 9 h)

  pub byte_letter : 9 < d → d + 55 ≡ byte_of d
  unfolding byte_of
  byte_letter h = rw (lt-leb d 9 h)

  -- a digit's byte has its value
  pub digit_byte : d ≤ 15 → digit_of (byte_of d) ≡ d
  digit_byte h = go (dec_le d 9)
    where
      go : Dec (d ≤ 9) → digit_of (byte_of d) ≡ d
      go (yes l) = rw (← byte_number l) (sym (digit_number (d + 48) (omega arith) (omega arith)) ∙ omega arith)
      go (no l) = rw (← byte_letter (omega arith)) (sym (digit_letter (d + 55) (omega arith) (omega arith) (omega arith) (omega arith)) ∙ omega arith)

-- the byte of a digit's value is the byte itself
pub byte_digit : (c : ℕ) → digit_of c ≤ 15 → byte_of (digit_of c) ≡ c
byte_digit c h = low (dec_le 48 c)
  where
    letters : 48 ≤ c → 57 < c → Dec (65 ≤ c) → Dec (c ≤ 70) → byte_of (digit_of c) ≡ c
    letters a b (no l) m = absurd (omega (arith, digit_between c a b (omega arith)))
    letters a b (yes l) (no m) = absurd (omega (arith, digit_high c a b l (omega arith)))
    letters a b (yes l) (yes m) = rw (← digit_letter c a b l m) (sym (byte_letter (c - 55) (omega arith)) ∙ omega arith)

    numbers : 48 ≤ c → Dec (c ≤ 57) → byte_of (digit_of c) ≡ c
    numbers a (yes k) = rw (← digit_number c a k) (sym (byte_number (c - 48) (omega arith)) ∙ omega arith)
    numbers a (no k) = letters a (omega arith) (dec_le 65 c) (dec_le c 70)

    low : Dec (48 ≤ c) → byte_of (digit_of c) ≡ c
    low (yes a) = numbers a (dec_le c 57)
    low (no a) = absurd (omega (arith, digit_low c (omega arith)))
