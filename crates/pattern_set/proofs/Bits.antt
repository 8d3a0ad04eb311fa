-- The bits of a number, by its halves.
use Prim.Native.Nat.{ℕ, zero, suc, ◌+◌, ◌*◌, ◌/◌, ◌%◌, ◌^◌, ◌<◌, ◌≤◌, min, max}
use mathlib.Core.Path.{◌≡◌, refl, sym, ◌∙◌}
use mathlib.Core.Bool.{Bool, true, false, ◌&&◌, ◌||◌, false≢true}
use native.Mathlib.Nat.{pow-suc, div-one, mul_comm, div-div-eq-div-mul}
use native.Mathlib.Omega.{arith}
use lib.Arith.{digits_div, digits_mod, mod-mul}
use lib.Bits.{bit_and, bit_or, and_step, or_step}
use lib.Pow.{pow_pos}
use lib.Dec.{eqb, eqb-suc-suc}
use borrow.Author.Tests.{ne_eqb}
use mir.Val.{bool_byte}
use Rattle.pattern_set.specs.Sets.{bit, moved}

-- a last binary digit is 0 or 1
digit : (P : ℕ → Type 0) → P 0 → P 1 → (n : ℕ) → P (n % 2)
digit P none one n = pick (n % 2) (omega arith)
  where
    pick : (d : ℕ) → d < 2 → P d
    pick zero h = none
    pick (suc zero) h = one
    pick (suc (suc d)) h = absurd (omega arith)

-- one bit, and the rest
low_bit : (s : ℕ) → bit s 0 ≡ eqb (s % 2) 1
unfolding bit
low_bit s = refl

high_bit : (s i : ℕ) → bit s (suc i) ≡ bit (s / 2) i
unfolding bit
high_bit s i = refl

min_low : (x y : ℕ) → eqb (min (x % 2) (y % 2)) 1 ≡ (eqb (x % 2) 1 && eqb (y % 2) 1)
min_low x y =
    digit (λ (a : ℕ). eqb (min a (y % 2)) 1 ≡ (eqb a 1 && eqb (y % 2) 1))
    (digit (λ (b : ℕ). eqb (min 0 b) 1 ≡ (eqb 0 1 && eqb b 1)) refl refl y)
    (digit (λ (b : ℕ). eqb (min 1 b) 1 ≡ (eqb 1 1 && eqb b 1)) refl refl y)
    x

max_low : (x y : ℕ) → eqb (max (x % 2) (y % 2)) 1 ≡ (eqb (x % 2) 1 || eqb (y % 2) 1)
max_low x y =
    digit (λ (a : ℕ). eqb (max a (y % 2)) 1 ≡ (eqb a 1 || eqb (y % 2) 1))
    (digit (λ (b : ℕ). eqb (max 0 b) 1 ≡ (eqb 0 1 || eqb b 1)) refl refl y)
    (digit (λ (b : ℕ). eqb (max 1 b) 1 ≡ (eqb 1 1 || eqb b 1)) refl refl y)
    x

and_half : (a b : ℕ) → bit_and a b / 2 ≡ bit_and (a / 2) (b / 2)
and_half a b = rw (and_step a b) (digits_div (bit_and (a / 2) (b / 2)) (omega arith))

or_half : (a b : ℕ) → bit_or a b / 2 ≡ bit_or (a / 2) (b / 2)
or_half a b = rw (or_step a b) (digits_div (bit_or (a / 2) (b / 2)) (omega arith))

and_odd : (a b : ℕ) → bit_and a b % 2 ≡ min (a % 2) (b % 2)
and_odd a b = rw (and_step a b) (digits_mod (bit_and (a / 2) (b / 2)) (omega arith))

or_odd : (a b : ℕ) → bit_or a b % 2 ≡ max (a % 2) (b % 2)
or_odd a b = rw (or_step a b) (digits_mod (bit_or (a / 2) (b / 2)) (omega arith))

-- a bit of both, and of either
pub and_bit : (a b i : ℕ) → bit (bit_and a b) i ≡ (bit a i && bit b i)
and_bit a b zero = rw (low_bit, low_bit, low_bit) (rw (and_odd a b) (min_low a b))
and_bit a b (suc i) = rw (high_bit, high_bit, high_bit) (rw (and_half a b) (and_bit (a / 2) (b / 2) i))

pub or_bit : (a b i : ℕ) → bit (bit_or a b) i ≡ (bit a i || bit b i)
or_bit a b zero = rw (low_bit, low_bit, low_bit) (rw (or_odd a b) (max_low a b))
or_bit a b (suc i) = rw (high_bit, high_bit, high_bit) (rw (or_half a b) (or_bit (a / 2) (b / 2) i))

pub zero_bit : (i : ℕ) → bit 0 i ≡ false
unfolding bit
zero_bit zero = refl
zero_bit (suc i) = zero_bit i

-- twice a number, and a digit put behind
double_odd : (s : ℕ) → s * 2 % 2 ≡ 0
double_odd s = omega arith

double_half : (s : ℕ) → s * 2 / 2 ≡ s
double_half s = omega arith

pub double_bit : (s i : ℕ) → bit (s * 2) i ≡ moved false (bit s) i
unfolding moved
double_bit s zero = rw (low_bit, double_odd s)
double_bit s (suc i) = rw (high_bit, double_half s)

pub digit_bit : (first : Bool) (i : ℕ) → bit (bool_byte first) i ≡ moved first (λ _. false) i
unfolding bit moved
digit_bit true zero = refl
digit_bit true (suc i) = zero_bit i
digit_bit false zero = refl
digit_bit false (suc i) = zero_bit i

-- a digit put behind a number
pub behind_low : (d : Bool) (s : ℕ) → bit (bool_byte d + s * 2) 0 ≡ d
unfolding bit
behind_low true s = let e : (1 + s * 2) % 2 ≡ 1 = omega arith in rw e
behind_low false s = let e : (0 + s * 2) % 2 ≡ 0 = omega arith in rw e

pub behind_high : (d : Bool) (s i : ℕ) → bit (bool_byte d + s * 2) (suc i) ≡ bit s i
behind_high true s i = let e : (1 + s * 2) / 2 ≡ s = omega arith in rw (high_bit, e)
behind_high false s i = let e : (0 + s * 2) / 2 ≡ s = omega arith in rw (high_bit, e)

-- a number's lower digits
mod_odd : (n k : ℕ) → n % 2 ^ suc k % 2 ≡ n % 2
mod_odd n k = rw (pow-suc 2 k, mod-mul n {m = 2 ^ k} {c = 2} (pow_pos k) (omega arith)) (digits_mod (n / 2 % 2 ^ k) (omega arith))

mod_half : (n k : ℕ) → n % 2 ^ suc k / 2 ≡ n / 2 % 2 ^ k
mod_half n k = rw (pow-suc 2 k, mod-mul n {m = 2 ^ k} {c = 2} (pow_pos k) (omega arith)) (digits_div (n / 2 % 2 ^ k) (omega arith))

pub mod_bit : (k n i : ℕ) → i < k → bit (n % 2 ^ k) i ≡ bit n i
mod_bit zero n i h = absurd (omega arith)
mod_bit (suc k) n zero h = rw (low_bit, low_bit, mod_odd n k)
mod_bit (suc k) n (suc i) h = rw (high_bit, high_bit, mod_half n k) (mod_bit k (n / 2) i (omega arith))

-- a power of two has one bit
power_odd : (i : ℕ) → 2 ^ suc i % 2 ≡ 0
power_odd i = rw (pow-suc 2 i) (double_odd (2 ^ i))

power_half : (i : ℕ) → 2 ^ suc i / 2 ≡ 2 ^ i
power_half i = rw (pow-suc 2 i) (double_half (2 ^ i))

pub one_bit : (i j : ℕ) → bit (2 ^ i) j ≡ eqb j i
one_bit zero zero = rw low_bit
one_bit zero (suc j) = rw (high_bit, ne_eqb (suc j) 0 (λ e. omega arith)) (zero_bit j)
one_bit (suc i) zero = rw (low_bit, power_odd i, ne_eqb 0 (suc i) (λ e. omega arith))
one_bit (suc i) (suc j) = rw (high_bit, power_half i, eqb-suc-suc) (one_bit i j)

-- a bit by a shift
pub shifted_bit : (s i : ℕ) → eqb (s / 2 ^ i % 2) 1 ≡ bit s i
shifted_bit s zero = rw (low_bit, div-one)
shifted_bit s (suc i) = rw (high_bit, pow-suc 2 i, mul_comm (2 ^ i) 2, ← div-div-eq-div-mul s 2 (2 ^ i)) (shifted_bit (s / 2) i)

half_less : (s k : ℕ) → s < 2 ^ suc k → s / 2 < 2 ^ k
half_less s k h =
    let twice : s < 2 ^ k * 2 = rw (pow-suc 2 k) at h in
    omega arith

-- a number has no bit behind its digits
pub no_bit : (k s i : ℕ) → s < 2 ^ k → k ≤ i → bit s i ≡ false
no_bit zero s i h l =
    let none : s ≡ 0 = omega arith in
    rw none (zero_bit i)
no_bit (suc k) s zero h l = absurd (omega arith)
no_bit (suc k) s (suc i) h l = rw high_bit (no_bit k (s / 2) i (half_less s k h) (omega arith))

-- two numbers of k digits with the same bits are one
low_same : (a b : ℕ) → bit a 0 ≡ bit b 0 → a % 2 ≡ b % 2
unfolding bit
low_same a b e =
    digit (λ (x : ℕ). eqb x 1 ≡ eqb (b % 2) 1 → x ≡ b % 2)
    (digit (λ (y : ℕ). eqb 0 1 ≡ eqb y 1 → 0 ≡ y) (λ _. refl) (λ q. absurd (false≢true q)) b)
    (digit (λ (y : ℕ). eqb 1 1 ≡ eqb y 1 → 1 ≡ y) (λ q. absurd (false≢true (sym q))) (λ _. refl) b)
    a
    e

pub same_bits : (k a b : ℕ) → a < 2 ^ k → b < 2 ^ k → ((i : ℕ) → i < k → bit a i ≡ bit b i) → a ≡ b
same_bits zero a b h l e = omega arith
same_bits (suc k) a b h l e =
    let low : a % 2 ≡ b % 2 = low_same a b (e 0 (omega arith)) in
    let high : a / 2 ≡ b / 2 =
    same_bits k (a / 2) (b / 2) (half_less a k h) (half_less b k l)
    (λ i q. sym (high_bit a i) ∙ e (suc i) (omega arith) ∙ high_bit b i) in
    omega arith
