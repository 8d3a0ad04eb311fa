-- A list of changes turns the mended marks back into the old, and the old into the mended.
use Prim.Native.Nat.{ℕ, zero, suc, ◌<◌, ◌≤◌}
use mathlib.Core.Path.{◌≡◌, refl, sym, ◌∙◌}
use mathlib.Core.Bool.{Bool, true, false, cond}
use mathlib.Core.List.{List, ◌++◌}
use native.Mathlib.Nat.{add-zero}
use native.Mathlib.Numerals.{add-one}
use native.Mathlib.Omega.{arith}
use lib.ListN.{length, get_or, drop, set, take-append-drop}
use lib.Seq.{set-get_or}
use Rattle.tables.specs.Documents.{Doc, mark}
use Rattle.tables.specs.Checks.{shape_check, Fine}
use Rattle.tables.proofs.Soundness.{shape_facts}
use Rattle.selection.specs.Lists.{tab, front, count}
use Rattle.selection.proofs.Lists.{front-take}
use Rattle.selection.proofs.Filling.{row_start, row_more, row_old, row_rest}
use Rattle.mending.specs.Mending.{mended_mark, mended_marks, changed, changes, change_list}
use Rattle.mending.specs.Undoing.{undone, redone}
use Rattle.mending.proofs.Mended.{mended-mark, mended-length}
use Rattle.mending.proofs.Listing.{changed-same, list_at}

-- rows that are set one after the other, each at the next node at which a test holds, to what `new` has there:
-- where `new` is as the first row at all other nodes, the last row is `new` below n, and the first from n on
module _ (test : ℕ → Bool) (new : ℕ → ℕ) (n : ℕ) (rows : ℕ → List ℕ) (long : n ≤ length (rows 0))
    (same : (v : ℕ) → v < n → test v ≡ false → get_or (rows 0) v 0 ≡ new v)
    (sets : (v : ℕ) → v < n → test v ≡ true → rows (suc (count test v)) ≡ set (rows (count test v)) v (new v)) where
  turned : (v : ℕ) → v ≤ n → rows (count test v) ≡ tab new v ++ drop v (rows 0)
  unfolding count
  turned zero h = row_start new (rows 0)
  turned (suc v) h = go (test v) refl (turned v (omega arith))
    where
      go : (b : Bool) → test v ≡ b → rows (count test v) ≡ tab new v ++ drop v (rows 0) →
          rows (cond b (suc (count test v)) (count test v)) ≡ tab new (suc v) ++ drop (suc v) (rows 0)
      go true q e = sets v h q ∙ (rw add-one at (row_more new (rows 0) v e (omega arith) refl))
      go false q e =
          sym (set-get_or (rows (count test v)) v 0)
          ∙ (rw add-one at (row_more new (rows 0) v e (omega arith) (row_old new (rows 0) v e v (omega arith) ∙ same v h q)))

module _ (d : Doc) (shape : shape_check d ≡ Fine) (list : List ℕ) where
  long : d.used ≤ length d.marks
  long = (shape_facts d shape).3

  -- the old marks come back
  pub turned_back : undone (change_list d list) (changes d) (mended_marks d) ≡ d.marks
  unfolding changes mended_marks undone front
  turned_back =
      turned (changed d) (mark d) d.used (λ k. undone (change_list d list) k (mended_marks d)) (rw (mended-length d long) long)
      (λ v h e. mended-mark d v h ∙ sym (changed-same d v e))
      (λ v h e. rw (rw add-zero at (list_at d list v h e 0 (omega arith)), list_at d list v h e 1 (omega arith)) refl)
      d.used
      (omega arith)
      ∙ rw (row_rest (mended_mark d.rows d.marks) d.marks d.used refl, front-take d.used d.marks long) (take-append-drop d.used d.marks)

  -- and the mended marks come again
  pub made_again : redone (change_list d list) (changes d) d.marks ≡ mended_marks d
  unfolding changes mended_marks redone
  made_again =
      turned (changed d) (mended_mark d.rows d.marks) d.used (λ k. redone (change_list d list) k d.marks) long
      (λ v h e. changed-same d v e)
      (λ v h e. rw (rw add-zero at (list_at d list v h e 0 (omega arith)), list_at d list v h e 2 (omega arith)) refl)
      d.used
      (omega arith)
