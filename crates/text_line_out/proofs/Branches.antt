-- The branches of the code on one digit of a word, held against the definitions.
use Prim.Native.Nat.{ℕ, ◌-◌, ◌/◌, ◌%◌, ◌^◌}
use mathlib.Core.Path.{◌≡◌}
use mathlib.Core.List.{List}
use native.Mathlib.Omega.{arith}
use lib.ListN.{get_or}
use Rattle.text_digits.specs.Digits.{byte_of, byte_at}

-- digit j of a word
pub digit_first : (w j : ℕ) → j ≡ 0 → w / 4096 % 16 ≡ w / 16 ^ (3 - j) % 16
digit_first w j e = rw e

pub digit_second : (w j : ℕ) → j ≡ 1 → w / 256 % 16 ≡ w / 16 ^ (3 - j) % 16
digit_second w j e = rw e

pub digit_third : (w j : ℕ) → j ≡ 2 → w / 16 % 16 ≡ w / 16 ^ (3 - j) % 16
digit_third w j e = rw e

pub digit_last : (w j : ℕ) → (j ≡ 0 → ⊥) → (j ≡ 1 → ⊥) → (j ≡ 2 → ⊥) → w % 16 ≡ w / 16 ^ (3 - j) % 16
digit_last w j a b c =
    let e : 3 - j ≡ 0 = omega arith in
    rw e (omega arith)

pub byte_of_word : (ws : List ℕ) (i : ℕ) {w d b : ℕ} → w ≡ get_or ws (i / 4) 0 → d ≡ w / 16 ^ (3 - i % 4) % 16 → b ≡ byte_of d → b ≡ byte_at ws i
unfolding byte_at
byte_of_word ws i p q e = rw (← p, ← q) e
