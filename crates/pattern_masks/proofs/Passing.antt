-- A word while its steps are passed one after another, and each is put in where a test says so.
use Prim.Native.Nat.{ℕ, suc, ◌+◌, ◌-◌, ◌<◌, ◌≤◌, min}
use mathlib.Core.Path.{◌≡◌, refl, sym, ◌∙◌}
use mathlib.Core.Bool.{Bool, true, false, ◌&&◌, ◌||◌, and-true, and-false, or-false}
use mathlib.Core.List.{List}
use native.Mathlib.Decide.{ℕ_discrete, dec_lt}
use native.Mathlib.Omega.{arith}
use lib.Dec.{eqb, ltb}
use borrow.Author.Tests.{eq-eqb, ne_eqb, lt-ltb, le-ltb}
use Rattle.tables.specs.Words.{steps, label}
use Rattle.selection.specs.Ways.{stays}
use Rattle.pattern_set.specs.Sets.{bit, word_steps, Word}
use Rattle.pattern_set.proofs.Bits.{zero_bit}
use Rattle.pattern_set.proofs.Words.{first_word, first_bit}
use Rattle.pattern_masks.specs.Masks.{wild}

-- by cases: it is so or it is not
pub whether : {A P : Type 0} → Dec A → (A → P) → ((A → ⊥) → P) → P
whether (yes h) so other = so h
whether (no h) so other = other h

-- a set has no step from n on
abbrev pub Below : ℕ → (ℕ → Bool) → Type 0
Below n f = (i : ℕ) → n ≤ i → f i ≡ false

-- of the steps from `from` on that are in a set, the first i
unfoldable pub passed : (ℕ → Bool) → ℕ → ℕ → ℕ → Bool
passed f from i j = ltb j i && f (from + j)

module _ (f : ℕ → Bool) (from : ℕ) where
  pub passed_none : (j : ℕ) → passed f from 0 j ≡ false
  unfolding passed
  passed_none j = rw (le-ltb j 0 (omega arith))

  -- one step more
  pub passed_more : (i j : ℕ) → (passed f from i j || (f (from + i) && eqb j i)) ≡ passed f from (i + 1) j
  unfolding passed
  passed_more i j =
      whether (ℕ_discrete j i)
      (λ e. rw (e, le-ltb i i (omega arith), lt-ltb i (i + 1) (omega arith), eq-eqb i i refl, and-true (f (from + i))))
      (λ n. rw (ne_eqb j i n, and-false (f (from + i)), or-false (ltb j i && f (from + j)), below_more n))
    where
      below_more : (j ≡ i → ⊥) → ltb j i ≡ ltb j (i + 1)
      below_more n =
          whether (dec_lt j i)
          (λ h. rw (lt-ltb j i h, lt-ltb j (i + 1) (omega arith)))
          (λ h. rw (le-ltb j i (omega arith), le-ltb j (i + 1) (omega arith)))

  -- all steps of the word that are there, of n
  pub passed_all : (n : ℕ) {m : ℕ} → m ≡ min word_steps (n - from) → Below n f → (j : ℕ) → j < word_steps → passed f from m j ≡ f (from + j)
  unfolding passed
  passed_all n {m} e below j h =
      whether (dec_lt j m)
      (λ l. rw (lt-ltb j m l))
      (λ l. rw (le-ltb j m (omega arith)) (sym (below (from + j) (omega arith))))

  pub word_start : Word (passed f from 0) 0 0
  word_start = first_word (λ j h. zero_bit j ∙ sym (passed_none j))

  module _ (i : ℕ) {s : ℕ} (w : Word (passed f from i) 0 s) where
    pub word_more : {r : ℕ} {yes : Bool} → yes ≡ f (from + i) → Word (λ j. bit s j || (yes && eqb j i)) 0 r → Word (passed f from (i + 1)) 0 r
    word_more e more = first_word (λ j h. first_bit more j h ∙ rw (first_bit w j h, e) (passed_more i j))

    pub word_end : (n : ℕ) {m : ℕ} → i ≤ m → m ≤ i → m ≡ min word_steps (n - from) → Below n f → Word f from s
    word_end n {m} h l e below = record { at = λ j k. first_bit w j k ∙ passed_all n (omega arith) below j k }

-- a word with one step more, where a flag says so
module _ (s i : ℕ) {yes : Bool} where
  pub put_in : {r : ℕ} → Word (λ j. bit s j || eqb j i) 0 r → yes ≡ true → Word (λ j. bit s j || (yes && eqb j i)) 0 r
  put_in w e = first_word (λ j h. first_bit w j h ∙ rw e)

  pub put_none : yes ≡ false → Word (λ j. bit s j || (yes && eqb j i)) 0 s
  put_none e = first_word (λ j h. rw (e, or-false (bit s j)))

-- the steps that stay and the wildcards are steps of the pattern
module _ (p : List ℕ) where
  pub stays_below : Below (steps p) (stays p false)
  stays_below i h = rw (le-ltb (suc i) (steps p) (omega arith))

  pub wild_below : Below (steps p) (wild p)
  unfolding wild
  wild_below i h = rw (le-ltb i (steps p) h)

  pub wild_there : (i : ℕ) {l : ℕ} → l ≡ label p i → i < steps p → eqb l 0 ≡ wild p i
  unfolding wild
  wild_there i e h = rw (lt-ltb i (steps p) h, e)
