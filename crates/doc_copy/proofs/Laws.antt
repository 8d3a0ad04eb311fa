-- What one copy keeps, for every table; and where every word of it is one, it is the graft.
use Prim.Native.Nat.{ℕ, zero, suc, ◌+◌, ◌*◌, ◌<◌, ◌≤◌}
use mathlib.Core.Path.{◌≡◌, refl, ◌∙◌}
use mathlib.Core.Bool.{Bool, true, false, cond}
use mathlib.Core.List.{List, ◌++◌}
use native.Mathlib.Omega.{arith}
use lib.ListN.{length, drop}
use borrow.Author.Tests.{leb-true}
use Rattle.tables.specs.Limits.{word_limit}
use Rattle.tables.specs.Words.{nodes, tag, Bits16}
use Rattle.tables.specs.Documents.{Doc, doc, capacity}
use Rattle.selection.specs.Lists.{front}
use Rattle.selection.specs.Operations.{copied_parent, copy_words, graft}
use Rattle.selection.proofs.Grafting.{graft_rows_length, graft_marks_length}
use Rattle.doc_copy.specs.Copying.{held, fitting, copied}
use Rattle.doc_copy.proofs.Held.{held_word, held_words, held-append, length-held}
use Rattle.doc_copy.proofs.Copies.{words_more}
use Rattle.doc_copy.proofs.Grafting.{front-held, drop-held}

module _ (x : List ℕ) (q : ℕ) (d : Doc) where
  -- the copy, or none
  by_fit : (P : Doc → Type 0) → (fitting x d ≡ true → P (doc (held (graft x q d).rows) (graft x q d).marks (graft x q d).used)) → P d → P (copied x q d)
  unfolding copied
  by_fit P there same = go (fitting x d) there
    where
      go : (b : Bool) → (b ≡ true → P (doc (held (graft x q d).rows) (graft x q d).marks (graft x q d).used)) → P (cond b (doc (held (graft x q d).rows) (graft x q d).marks (graft x q d).used) d)
      go true f = f refl
      go false f = same

  room : fitting x d ≡ true → d.used + nodes x ≤ capacity (length d.rows) (length d.marks)
  unfolding fitting
  room fits = leb-true (d.used + nodes x) (capacity (length d.rows) (length d.marks)) fits

  pub copied_rows : length (copied x q d).rows ≡ length d.rows
  copied_rows = by_fit (λ c. length c.rows ≡ length d.rows) (λ fits. length-held (graft x q d).rows ∙ graft_rows_length x q d (omega (arith, room fits))) refl

  pub copied_marks : length (copied x q d).marks ≡ length d.marks
  copied_marks = by_fit (λ c. length c.marks ≡ length d.marks) (λ fits. graft_marks_length x q d (omega (arith, room fits))) refl

  pub copied_words : Bits16 d.rows → Bits16 (copied x q d).rows
  copied_words words = by_fit (λ c. Bits16 c.rows) (λ fits. held_words (graft x q d).rows) words

-- where every word of the copy is one, the copy is the graft
module _ (x : List ℕ) (q : ℕ) (d : Doc) (words : (k : ℕ) → k < nodes x → (copied_parent x q d.used k < word_limit) × (tag x k < word_limit)) where
  words_held : (n : ℕ) → n ≤ nodes x → held (copy_words x q d.used n) ≡ copy_words x q d.used n
  unfolding copy_words held
  words_held zero h = refl
  words_held (suc k) h =
      words_more x q d.used k (words k h).1
      ∙ rw (words_held k (omega arith), held_word (copied_parent x q d.used k) (words k h).0)

  pub copied-graft : fitting x d ≡ true → Bits16 d.rows → copied x q d ≡ graft x q d
  unfolding graft copied
  copied-graft fits word =
      rw (
        fits,
        held-append (front (2 * d.used) d.rows ++ copy_words x q d.used (nodes x)) (drop (2 * (d.used + nodes x)) d.rows),
        held-append (front (2 * d.used) d.rows) (copy_words x q d.used (nodes x)),
        front-held d.rows word (2 * d.used),
        drop-held d.rows word (2 * (d.used + nodes x)),
        words_held (nodes x) (omega arith),
      )
