-- Words of sets: what the code's operations make of them, and one word after another, however many there are.
use Prim.Native.Nat.{ℕ, zero, suc, ◌*◌, ◌%◌, ◌^◌, ◌<◌, ◌≤◌}
use mathlib.Core.Path.{◌≡◌, refl, sym, ◌∙◌, ap}
use mathlib.Core.Bool.{Bool, false, ◌&&◌, ◌||◌, or-false}
use native.Mathlib.Nat.{zero-add, one-mul}
use native.Mathlib.Omega.{arith}
use lib.Bits.{bit_and, bit_or}
use lib.Dec.{eqb}
use lib.Pow.{shl_exact}
use borrow.Author.Tests.{ne_eqb}
use mir.Val.{bool_byte}
use Rattle.pattern_set.specs.Sets.{bit, moved, next_set, word_steps, Word}
use Rattle.pattern_set.proofs.Bits.{and_bit, or_bit, double_bit, digit_bit, mod_bit, one_bit}

-- the word that begins with step 0, by its bits, and back
pub first_word : {set : ℕ → Bool} {s : ℕ} → ((i : ℕ) → i < word_steps → bit s i ≡ set i) → Word set 0 s
first_word {set} e = record { at = λ i h. e i h ∙ ap set (sym (zero-add i)) }

pub first_bit : {set : ℕ → Bool} {s : ℕ} → Word set 0 s → (i : ℕ) → i < word_steps → bit s i ≡ set i
first_bit {set} w i h = w.at i h ∙ ap set (zero-add i)

-- a word moved on by one, its first step as said
or_moved : (first : Bool) (above : ℕ → Bool) (i : ℕ) → (moved false above i || moved first (λ _. false) i) ≡ moved first above i
unfolding moved
or_moved first above zero = refl
or_moved first above (suc i) = or-false (above i)

moved_word : (above : ℕ) (first : Bool) (i : ℕ) → i < word_steps → bit (bit_or (above * 2 % 18446744073709551616) (bool_byte first)) i ≡ moved first (bit above) i
moved_word above first i h =
    or_bit (above * 2 % 18446744073709551616) (bool_byte first) i
    ∙ rw (mod_bit 64 (above * 2) i h, double_bit above i, digit_bit first i) (or_moved first (bit above) i)

pub next_word : (above agreeing staying : ℕ) (first : Bool) → Word (next_set (bit agreeing) (bit staying) first (bit above)) 0 (bit_or (bit_and agreeing (bit_or (above * 2 % 18446744073709551616) (bool_byte first))) (bit_and staying above))
unfolding next_set
next_word above agreeing staying first =
    first_word (λ i h. or_bit (bit_and agreeing (bit_or (above * 2 % 18446744073709551616) (bool_byte first))) (bit_and staying above) i
    ∙ rw (and_bit agreeing (bit_or (above * 2 % 18446744073709551616) (bool_byte first)) i, and_bit staying above i, moved_word above first i h))

pub common_word : (a b : ℕ) → Word (λ i. bit a i && bit b i) 0 (bit_and a b)
common_word a b = first_word (λ i h. and_bit a b i)

-- one step more, or none where it is behind the word
pub with_word : (s i : ℕ) → i < word_steps → Word (λ j. bit s j || eqb j i) 0 (bit_or s (1 * 2 ^ i % 18446744073709551616))
with_word s i h =
    first_word (λ j k. rw (shl_exact {a = 1} 1 i 64 (omega arith) (omega arith), one-mul (2 ^ i), or_bit s (2 ^ i) j, one_bit i j))

pub with_none : (s i : ℕ) → word_steps ≤ i → Word (λ j. bit s j || eqb j i) 0 s
with_none s i h = first_word (λ j k. rw (ne_eqb j i (λ e. omega arith)) (sym (or-false (bit s j))))
