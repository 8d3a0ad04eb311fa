-- Copies of a tree that all fit are its grafts.
use Prim.Native.Nat.{ℕ, zero, suc, ◌+◌, ◌*◌, ◌<◌, ◌≤◌}
use mathlib.Core.Path.{◌≡◌, refl, subst}
use mathlib.Core.Bool.{Bool, true}
use mathlib.Core.List.{List, [], ◌∷◌}
use native.Mathlib.Decide.{dec_lt}
use native.Mathlib.Omega.{arith}
use lib.ListN.{length, get_or, get_or-eq_default}
use borrow.Author.Tests.{le-leb}
use Rattle.tables.specs.Limits.{used_limit, word_limit}
use Rattle.tables.specs.Words.{nodes, parent, Bits16}
use Rattle.tables.specs.Documents.{Doc, capacity}
use Rattle.selection.specs.Lists.{rising, count}
use Rattle.selection.specs.Operations.{copied_parent, graft, grafts}
use Rattle.selection.proofs.Lists.{length-rising, rising-of}
use Rattle.selection.proofs.Grafting.{copied_below, graft_used, graft_rows_length, graft_marks_length}
use Rattle.doc_copy.specs.Copying.{fitting, copied}
use Rattle.doc_copy.proofs.Laws.{copied-graft, copied_words}
use Rattle.doc_graft.specs.Grafting.{copied_all}

-- so many nodes fit into the tables
pub record Roomy (d : Doc) (more : ℕ) : Type 0 where
  pub limit : d.used + more ≤ used_limit
  pub rows : 2 * (d.used + more) ≤ length d.rows
  pub marks : d.used + more ≤ length d.marks

-- a table of words whose parents fall
module _ (x : List ℕ) (words : Bits16 x) (falls : (k : ℕ) → 0 < k → k < nodes x → parent x k < k) where
  module _ (q : ℕ) (point : q < word_limit) (d : Doc) (more : ℕ) (roomy : Roomy d (nodes x + more)) (table : Bits16 d.rows) where
    word : (k : ℕ) → k < nodes x → copied_parent x q d.used k < word_limit
    word zero h = point
    word (suc k) h = rw (copied_below x q d.used (suc k) (omega arith)) (omega (arith, roomy.limit, falls (suc k) (omega arith) h))

    fits : fitting x d ≡ true
    unfolding fitting
    fits = le-leb (d.used + nodes x) (capacity (length d.rows) (length d.marks)) (omega (arith, roomy.limit, roomy.rows, roomy.marks))

    one : copied x q d ≡ graft x q d
    one = copied-graft x q d (λ k h. (word k h, words (2 * k + 1))) fits table

    next_words : Bits16 (graft x q d).rows
    next_words = rw one at (copied_words x q d table)

    next_roomy : Roomy (graft x q d) more
    next_roomy = record {
      limit = rw (graft_used x q d) (omega (arith, roomy.limit));
      rows = rw (graft_used x q d, graft_rows_length x q d (omega (arith, roomy.rows))) (omega (arith, roomy.rows));
      marks = rw (graft_used x q d, graft_marks_length x q d (omega (arith, roomy.marks))) (omega (arith, roomy.marks));
    }

  pub all_grafts : (qs : List ℕ) → ((i : ℕ) → get_or qs i 0 < word_limit) → (d : Doc) → Roomy d (length qs * nodes x) → Bits16 d.rows → copied_all x qs d ≡ grafts x qs d
  unfolding copied_all grafts
  all_grafts [] points d roomy table = refl
  all_grafts (q ∷ qs) points d roomy table =
      let more = length qs * nodes x in
      let all : length (q ∷ qs) * nodes x ≡ nodes x + more = omega arith in
      let here : Roomy d (nodes x + more) = subst (λ (n : ℕ). Roomy d n) all roomy in
      rw (one q (points 0) d more here table)
      (all_grafts qs (λ i. points (suc i)) (graft x q d) (next_roomy q (points 0) d more here table) (next_words q (points 0) d more here table))

  -- so are copies under chosen nodes of a document
  pub chosen-grafts : (f : ℕ → Bool) (d : Doc) → Roomy d (count f d.used * nodes x) → Bits16 d.rows → copied_all x (rising f d.used) d ≡ grafts x (rising f d.used) d
  chosen-grafts f d roomy table = all_grafts (rising f d.used) (λ i. point i (dec_lt i (count f d.used))) d (rw length-rising roomy) table
    where
      point : (i : ℕ) → Dec (i < count f d.used) → get_or (rising f d.used) i 0 < word_limit
      point i (yes h) = omega (arith, (rising-of f d.used i h).below, roomy.limit)
      point i (no h) =
          let short : length (rising f d.used) ≤ i = rw length-rising (omega arith) in
          rw (get_or-eq_default (rising f d.used) 0 short) (omega arith)
