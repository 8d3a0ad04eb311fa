-- A copy under each chosen node below v, one node a turn.
use Prim.Native.Nat.{ℕ, ◌+◌, ◌≤◌}
use mathlib.Core.Path.{◌≡◌, refl, sym, ◌∙◌, ap}
use mathlib.Core.Bool.{Bool, true, false, cond}
use mathlib.Core.List.{List, [], ◌∷◌, ◌++◌}
use native.Mathlib.Numerals.{add-one}
use native.Mathlib.Omega.{arith}
use lib.Dec.{eqb}
use lib.ListN.{length, get_or}
use borrow.Author.Tests.{eq-eqb, ne_eqb}
use Rattle.tables.specs.Documents.{Doc}
use Rattle.selection.specs.Lists.{rising}
use Rattle.doc_updates.specs.Asking.{chosen}
use Rattle.doc_copy.specs.Copying.{copied}
use Rattle.doc_copy.proofs.Laws.{copied_rows, copied_marks}
use Rattle.doc_graft.specs.Grafting.{copied_all}

-- a node's turn: no copy, or one
module _ (b : ℕ) (one none : Doc) where
  pub turn_none : (b ≡ 1 → ⊥) → none ≡ cond (eqb b 1) one none
  turn_none h = rw (ne_eqb b 1 h)

  pub turn_one : {e : Doc} → b ≡ 1 → e ≡ one → e ≡ cond (eqb b 1) one none
  turn_one h q = rw (eq-eqb b 1 h) q

-- one copy more, at the end
all_snoc : (x qs : List ℕ) (q : ℕ) (d : Doc) → copied_all x (qs ++ (q ∷ [])) d ≡ copied x q (copied_all x qs d)
unfolding copied_all
all_snoc x [] q d = refl
all_snoc x (r ∷ qs) q d = all_snoc x qs q (copied x r d)

-- the tables keep their lengths
all_rows : (x qs : List ℕ) (d : Doc) → length (copied_all x qs d).rows ≡ length d.rows
unfolding copied_all
all_rows x [] d = refl
all_rows x (q ∷ qs) d = all_rows x qs (copied x q d) ∙ copied_rows x q d

all_marks : (x qs : List ℕ) (d : Doc) → length (copied_all x qs d).marks ≡ length d.marks
unfolding copied_all
all_marks x [] d = refl
all_marks x (q ∷ qs) d = all_marks x qs (copied x q d) ∙ copied_marks x q d

module _ (x : List ℕ) (d : Doc) (row : List ℕ) where
  -- the document with the copies under the chosen nodes below v
  upto : ℕ → Doc
  upto v = copied_all x (rising (chosen row) v) d

  pub all_start : d ≡ copied_all x (rising (chosen row) 0) d
  unfolding copied_all rising
  all_start = refl

  turned : (v : ℕ) (b : Bool) → cond b (copied x v (upto v)) (upto v) ≡ copied_all x (cond b (rising (chosen row) v ++ (v ∷ [])) (rising (chosen row) v)) d
  unfolding upto
  turned v true = sym (all_snoc x (rising (chosen row) v) v d)
  turned v false = refl

  module _ {now : Doc} (v : ℕ) (e : now ≡ copied_all x (rising (chosen row) v) d) where
    pub all_more : {b : ℕ} {next : Doc} → b ≡ get_or row v 0 → next ≡ cond (eqb b 1) (copied x v now) now → next ≡ copied_all x (rising (chosen row) (v + 1)) d
    unfolding rising upto chosen
    all_more q w = rw add-one (w ∙ rw (e, q) (turned v (chosen row v)))

    pub rows_long : length now.rows ≡ length d.rows
    rows_long = ap (λ (c : Doc). length c.rows) e ∙ all_rows x (rising (chosen row) v) d

    pub marks_long : length now.marks ≡ length d.marks
    marks_long = ap (λ (c : Doc). length c.marks) e ∙ all_marks x (rising (chosen row) v) d

    pub all_end : (n : ℕ) → v ≤ n → n ≤ v → now ≡ copied_all x (rising (chosen row) n) d
    all_end n h l =
        let same : n ≡ v = omega arith in
        rw same e
