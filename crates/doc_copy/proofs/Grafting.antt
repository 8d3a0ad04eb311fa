-- One copy into the free rest of the tables.
use Prim.Native.Nat.{ℕ, ◌+◌, ◌*◌, ◌-◌, ◌<◌, ◌≤◌}
use mathlib.Core.Path.{◌≡◌, refl, sym, ◌∙◌}
use mathlib.Core.Bool.{Bool, true, false, not}
use mathlib.Core.List.{List, ◌++◌, append_assoc, append-nil}
use native.Mathlib.Decide.{dec_lt}
use native.Mathlib.Omega.{arith}
use lib.Dec.{leb}
use lib.ListN.{length, get_or, take, drop, replicate, length-take, length-drop, length-replicate, get_or-replicate, get_or-eq_default}
use lib.Seq.{drop-drop, get_or-drop, ext_get_or}
use borrow.Author.Tests.{le-leb, lt-leb, leb-true, not-true, not-false}
use Rattle.tables.specs.Limits.{word_limit}
use Rattle.tables.specs.Words.{nodes, Bits16}
use Rattle.tables.specs.Documents.{doc, capacity}
use Rattle.selection.specs.Lists.{tab, front}
use Rattle.selection.specs.Operations.{copy_words, graft}
use Rattle.selection.proofs.Lists.{length-tab, get_or-tab, front-take, rest_whole, rest_none}
use Rattle.doc_copy.specs.Copying.{held, fitting, copied, Copyable}
use Rattle.doc_copy.proofs.Held.{held-append, held_same}

-- whether so many nodes fit
module _ (end words marks : ℕ) where
  pub fits_not : capacity words marks < end → false ≡ leb end (capacity words marks)
  fits_not h = sym (lt-leb end (capacity words marks) h)

  pub fits_so : end ≤ capacity words marks → true ≡ leb end (capacity words marks)
  fits_so h = sym (le-leb end (capacity words marks) h)

-- the free rest of a list comes back with a new front
pub lent_back : (t first : List ℕ) (a n m : ℕ) → m ≡ a + n → a ≤ length t →
    take a t ++ (first ++ drop n (take (length t - a) (drop a t)) ++ drop (length t - a) (drop a t)) ≡ front a t ++ first ++ drop m t
lent_back t first a n m e h =
    rw (rest_whole t a, rest_none t a, append-nil, drop-drop, ← e, front-take a t h) (sym (append_assoc (take a t) first (drop m t)))

zeros : (n : ℕ) → tab (λ _. 0) n ≡ replicate n 0
zeros n =
    ext_get_or 0 (tab (λ _. 0) n) (replicate n 0) (length-tab (λ _. 0) n ∙ sym (length-replicate n 0))
    (λ i h. let b : i < n = rw length-tab at h in get_or-tab (λ _. 0) n i b ∙ sym (get_or-replicate n i 0 0 b))

-- the words before and behind a copy are words
module _ (t : List ℕ) (words : Bits16 t) (n : ℕ) where
  pub front-held : held (front n t) ≡ front n t
  unfolding front
  front-held = held_same (front n t) (λ i. go i (dec_lt i n))
    where
      go : (i : ℕ) → Dec (i < n) → get_or (front n t) i 0 < word_limit
      go i (yes h) = rw (get_or-tab (λ j. get_or t j 0) n i h) (words i)
      go i (no h) =
          let short : length (front n t) ≤ i = rw length-tab (omega arith) in
          rw (get_or-eq_default (front n t) 0 short) (omega arith)

  pub drop-held : held (drop n t) ≡ drop n t
  drop-held = held_same (drop n t) (λ i. rw get_or-drop (words (n + i)))

module _ (x : List ℕ) (q at : ℕ) (t m : List ℕ) {c : Bool} (is : c ≡ leb (at + nodes x) (capacity (length t) (length m))) where
  pub graft_none : not c ≡ true → doc t m at ≡ copied x q (doc t m at)
  unfolding copied fitting
  graft_none h = rw (← is, not-true c h)

  module _ (fits : not c ≡ false) where
    pub room : at + nodes x ≤ capacity (length t) (length m)
    room = leb-true (at + nodes x) (capacity (length t) (length m)) (sym is ∙ not-false c fits)

    -- a copy fits the free rest
    pub free_copyable : Copyable x at (take (length t - 2 * at) (drop (2 * at) t))
    free_copyable = record { long = rw (length-take, length-drop) (omega (arith, room)); limit = omega (arith, room) }

    -- with its words and marks in the place of the free ones the tables are those with the copy
    pub graft-back : Bits16 t → {words marks : List ℕ} →
        words ≡ held (copy_words x q at (nodes x)) ++ drop (2 * nodes x) (take (length t - 2 * at) (drop (2 * at) t)) →
        marks ≡ tab (λ _. 0) (nodes x) ++ drop (nodes x) (take (length m - at) (drop at m)) →
        doc (take (2 * at) t ++ (words ++ drop (length t - 2 * at) (drop (2 * at) t))) (take at m ++ (marks ++ drop (length m - at) (drop at m))) (at + nodes x)
        ≡ copied x q (doc t m at)
    unfolding graft copied fitting
    graft-back word e f =
        rw (
          e,
          f,
          lent_back t (held (copy_words x q at (nodes x))) (2 * at) (2 * nodes x) (2 * (at + nodes x)) (omega arith) (omega (arith, room)),
          lent_back m (tab (λ _. 0) (nodes x)) at (nodes x) (at + nodes x) refl (omega (arith, room)),
          zeros,
          ← is,
          not-false c fits,
          held-append (front (2 * at) t ++ copy_words x q at (nodes x)) (drop (2 * (at + nodes x)) t),
          held-append (front (2 * at) t) (copy_words x q at (nodes x)),
          front-held t word (2 * at),
          drop-held t word (2 * (at + nodes x)),
        )
