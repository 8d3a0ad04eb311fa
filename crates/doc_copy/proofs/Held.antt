-- Numbers as words hold them: what is a word stays as it is.
use Prim.Native.Nat.{ℕ, zero, suc, ◌%◌, ◌<◌}
use mathlib.Core.Path.{◌≡◌, refl}
use mathlib.Core.List.{List, [], ◌∷◌, ◌++◌, map-append}
use native.Mathlib.Omega.{arith}
use lib.ListN.{length, length-map}
use Rattle.tables.specs.Limits.{word_limit}
use Rattle.tables.specs.Words.{Bits16}
use Rattle.doc_copy.specs.Copying.{held}

pub held_word : (w : ℕ) → w < word_limit → w % word_limit ≡ w
held_word w h = omega arith

pub held-append : (k l : List ℕ) → held (k ++ l) ≡ held k ++ held l
unfolding held
held-append k l = map-append (λ w. w % word_limit) k l

pub length-held : (l : List ℕ) → length (held l) ≡ length l
unfolding held
length-held l = length-map l (λ w. w % word_limit)

pub held_same : (l : List ℕ) → Bits16 l → held l ≡ l
unfolding held
held_same [] words = refl
held_same (w ∷ l) words = rw (held_word w (words 0), held_same l (λ i. words (suc i)))

pub held_words : (l : List ℕ) → Bits16 (held l)
unfolding held
held_words [] i = omega arith
held_words (w ∷ l) zero = omega arith
held_words (w ∷ l) (suc i) = held_words l i
