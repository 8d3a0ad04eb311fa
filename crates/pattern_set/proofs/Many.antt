-- A set in any number of words: each word of a node's set comes from the same word of its parent's, and from the last bit of the word before.
use Prim.Native.Nat.{ℕ, zero, suc, ◌+◌, ◌*◌, ◌/◌, ◌%◌, ◌^◌, ◌<◌}
use mathlib.Core.Path.{◌≡◌, refl, sym, ◌∙◌, ap}
use mathlib.Core.Bool.{Bool}
use mathlib.Core.List.{List, [], ◌∷◌}
use native.Mathlib.Nat.{add-suc, add-zero}
use native.Mathlib.Omega.{arith}
use lib.ListN.{get_or}
use mir.Val.{bool_byte}
use Rattle.pattern_set.specs.Sets.{bit, moved, next_set, word_steps, Word, Words}
use Rattle.pattern_set.proofs.Carried.{carried}
use Rattle.pattern_set.proofs.Bits.{same_bits, behind_low, behind_high}
use Rattle.pattern_set.proofs.Words.{first_word, first_bit}

module _ (take stay above : ℕ → Bool) (from : ℕ) {g s a : ℕ → Bool} (takes : (i : ℕ) → i < word_steps → g i ≡ take (from + i)) (stays : (i : ℕ) → i < word_steps → s i ≡ stay (from + i)) (stood : (i : ℕ) → i < word_steps → a i ≡ above (from + i)) where
  moved_on : (c first : Bool) → first ≡ moved c above from → (i : ℕ) → i < word_steps → moved first a i ≡ moved c above (from + i)
  unfolding moved
  moved_on c first e zero h = e ∙ ap (moved c above) (sym (add-zero from))
  moved_on c first e (suc i) h = stood i (omega arith) ∙ ap (moved c above) (sym (add-suc from i))

  -- a word of the node's set, by the masks' and the parent's
  pub word_next-set : (c first : Bool) → first ≡ moved c above from → {r : ℕ} → Word (next_set g s first a) 0 r → Word (next_set take stay c above) from r
  unfolding next_set
  word_next-set c first e w =
      record { at = λ i h. first_bit w i h ∙ rw (takes i h, stays i h, stood i h, moved_on c first e i h) }

-- what moves into the word behind is the last bit of this one
pub word_carry : {above : ℕ → Bool} {from a : ℕ} → Word above from a → (c : Bool) → bit a 63 ≡ moved c above (from + word_steps)
unfolding moved
word_carry {above} {from} stood c = stood.at 63 (omega arith) ∙ ap (moved c above) (sym (add-suc from 63))

module _ {take stay above : ℕ → Bool} (count : ℕ) {gs ss us : List ℕ} (takes : Words take count gs) (stays : Words stay count ss) (stood : Words above count us) (c : Bool) where
  carried-moved : (k : ℕ) → k < count → carried c us k ≡ moved c above (word_steps * k)
  unfolding carried moved
  carried-moved zero h = refl
  carried-moved (suc k) h =
      let e : word_steps * suc k ≡ word_steps * k + word_steps = omega arith in
      word_carry (stood.word k (omega arith)) c
      ∙ ap (moved c above) (sym e)

  -- all words of the node's set
  pub words_next-set : {rs : List ℕ} → ((k : ℕ) → k < count → Word (next_set (bit (get_or gs k 0)) (bit (get_or ss k 0)) (carried c us k) (bit (get_or us k 0))) 0 (get_or rs k 0)) → Words (next_set take stay c above) count rs
  words_next-set w =
      record {
        word = λ k h. word_next-set take stay above (word_steps * k) (takes.word k h).at (stays.word k h).at (stood.word k h).at c (carried c us k) (carried-moved k h) (w k h);
      }

-- step i is found in word i / 64, at bit i % 64
pub words_has : {set : ℕ → Bool} (count : ℕ) {words : List ℕ} → Words set count words → (i : ℕ) → i < word_steps * count → bit (get_or words (i / word_steps) 0) (i % word_steps) ≡ set i
words_has {set} count w i h =
    let e : word_steps * (i / word_steps) + i % word_steps ≡ i = omega arith in
    (w.word (i / word_steps) (omega arith)).at (i % word_steps) (omega arith) ∙ ap set e

-- a word of a set is one number
pub word_one : {set : ℕ → Bool} {from s t : ℕ} → Word set from s → Word set from t → s < 2 ^ word_steps → t < 2 ^ word_steps → s ≡ t
word_one {s = s} {t} v w h k = same_bits 64 s t h k (λ i l. v.at i l ∙ sym (w.at i l))

-- every set has its words
number : (ℕ → Bool) → ℕ → ℕ
number set zero = 0
number set (suc n) = bool_byte (set 0) + number (λ i. set (suc i)) n * 2

number_bit : (set : ℕ → Bool) (n i : ℕ) → i < n → bit (number set n) i ≡ set i
unfolding number
number_bit set zero i h = absurd (omega arith)
number_bit set (suc n) zero h = behind_low (set 0) (number (λ i. set (suc i)) n)
number_bit set (suc n) (suc i) h =
    behind_high (set 0) (number (λ i. set (suc i)) n) i ∙ number_bit (λ i. set (suc i)) n i (omega arith)

pub words_from : (ℕ → Bool) → ℕ → List ℕ
words_from set zero = []
words_from set (suc count) = number set word_steps ∷ words_from (λ i. set (word_steps + i)) count

words_at : (set : ℕ → Bool) (count k : ℕ) → k < count → Word set (word_steps * k) (get_or (words_from set count) k 0)
unfolding words_from
words_at set zero k h = absurd (omega arith)
words_at set (suc count) zero h = first_word (λ i l. number_bit set word_steps i l)
words_at set (suc count) (suc k) h =
    record {
      at = λ i l.
          let e : word_steps + (word_steps * k + i) ≡ word_steps * suc k + i = omega arith in
          (words_at (λ j. set (word_steps + j)) count k (omega arith)).at i l ∙ ap set e;
    }

pub words_any : (set : ℕ → Bool) (count : ℕ) → Words set count (words_from set count)
words_any set count = record { word = words_at set count }
