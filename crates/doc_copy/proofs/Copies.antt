-- The copier's words, one node a turn: those of the copy below k, and as they were from there on.
use Prim.Native.Nat.{ℕ, suc, ◌+◌, ◌*◌, ◌%◌, ◌<◌, ◌≤◌}
use mathlib.Core.Path.{◌≡◌, refl, sym, ◌∙◌}
use mathlib.Core.List.{List, [], ◌∷◌, ◌++◌, append_assoc}
use native.Mathlib.Numerals.{add-one}
use native.Mathlib.Omega.{arith}
use lib.ListN.{length, drop, set, length-append}
use lib.Seq.{drop-cons, set_at, append_snoc}
use borrow.Author.Tests.{ne_eqb}
use Rattle.tables.specs.Limits.{word_limit}
use Rattle.tables.specs.Words.{parent, tag}
use Rattle.selection.specs.Operations.{copied_parent, copy_words}
use Rattle.selection.proofs.Grafting.{length-copy_words}
use Rattle.doc_copy.specs.Copying.{held}
use Rattle.doc_copy.proofs.Held.{held_word, held-append, length-held}

-- the parent word of a copied node
module _ (x : List ℕ) (q base k : ℕ) where
  pub hung_root : k ≡ 0 → q % word_limit ≡ copied_parent x q base k % word_limit
  hung_root h = rw h

  pub hung_below : {u : ℕ} → u ≡ parent x k → (k ≡ 0 → ⊥) → (base + u) % word_limit ≡ copied_parent x q base k % word_limit
  hung_below e h = rw (ne_eqb k 0 h, e)

-- two words in the place of two
two_set : (first rest : List ℕ) (y z a b n : ℕ) → length first ≡ n → set (set (first ++ y ∷ z ∷ rest) n a) (n + 1) b ≡ first ++ (a ∷ b ∷ []) ++ rest
two_set first rest y z a b n e =
    rw (set_at first y (z ∷ rest) a n e, ← append_snoc first a (z ∷ rest))
    (set_at (first ++ (a ∷ [])) z rest b (n + 1) (rw (length-append, e) refl)
    ∙ append_snoc first a (b ∷ rest)
    ∙ sym (append_assoc first (a ∷ b ∷ []) rest))

-- the words of one node more
pub words_more : (x : List ℕ) (q base k : ℕ) → tag x k < word_limit → held (copy_words x q base (suc k)) ≡ held (copy_words x q base k) ++ (copied_parent x q base k % word_limit ∷ tag x k ∷ [])
unfolding copy_words held
words_more x q base k h = rw (held-append (copy_words x q base k) (copied_parent x q base k ∷ tag x k ∷ []), held_word (tag x k) h)

module _ (x : List ℕ) (q base : ℕ) (old : List ℕ) where
  pub copy_start : old ≡ held (copy_words x q base 0) ++ drop (2 * 0) old
  unfolding copy_words held
  copy_start = refl

  length_words : (k : ℕ) → length (held (copy_words x q base k)) ≡ 2 * k
  length_words k = length-held (copy_words x q base k) ∙ length-copy_words x q base k

  module _ {free : List ℕ} (k : ℕ) (e : free ≡ held (copy_words x q base k) ++ drop (2 * k) old) where
    pub copy_more : {a b : ℕ} → 2 * k + 1 < length old → a ≡ copied_parent x q base k % word_limit → b ≡ tag x k → tag x k < word_limit →
        set (set free (2 * k) a) (2 * k + 1) b ≡ held (copy_words x q base (k + 1)) ++ drop (2 * (k + 1)) old
    copy_more {a} {b} h p t word =
        let last : 2 * (k + 1) ≡ suc (suc (2 * k)) = omega arith in
        rw (e, drop-cons old (2 * k) 0 (omega arith), drop-cons old (suc (2 * k)) 0 (omega arith), last, add-one k, words_more x q base k word, ← p, ← t)
        (two_set (held (copy_words x q base k)) (drop (suc (suc (2 * k))) old) _ _ a b (2 * k) (length_words k))

    pub copy_end : (n : ℕ) → k ≤ n → n ≤ k → free ≡ held (copy_words x q base n) ++ drop (2 * n) old
    copy_end n h l =
        let same : n ≡ k = omega arith in
        rw same e
