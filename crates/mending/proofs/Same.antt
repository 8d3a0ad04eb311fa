-- Nothing changes exactly where the marks are right, so a second mending changes nothing.
use Prim.Native.Nat.{ℕ, zero, suc, ◌<◌, ◌≤◌}
use mathlib.Core.Path.{◌≡◌, refl, sym, ◌∙◌}
use mathlib.Core.Bool.{Bool, true, false}
use mathlib.Core.List.{List, [], ◌∷◌}
use native.Mathlib.Decide.{ℕ_discrete}
use native.Mathlib.Omega.{arith}
use lib.ListN.{length, take-append-drop}
use Rattle.tables.specs.Words.{parent}
use Rattle.tables.specs.Documents.{Doc, mark}
use Rattle.tables.specs.Checks.{shape_check, document_check, Fine}
use Rattle.tables.proofs.Soundness.{shape_facts, document_shape, mark-bit, mark-root, mark_above}
use Rattle.selection.specs.Lists.{count, front}
use Rattle.selection.proofs.Lists.{tab_ext, front-take, count_holds}
use Rattle.identities.specs.Documents.{Document}
use Rattle.mending.specs.Mending.{mended_mark, mended_marks, mended, changed, changes, change_words, change_list}
use Rattle.mending.proofs.Marks.{mended-root}
use Rattle.mending.proofs.Down.{downwards, mended_kept, mended-own}
use Rattle.mending.proofs.Mended.{mended_tables, mended-document}
use Rattle.mending.proofs.Listing.{same-changed, changed-same, words_length}

-- where a test holds nowhere, it counts none
count_none : (f : ℕ → Bool) (n : ℕ) → ((v : ℕ) → v < n → f v ≡ false) → count f n ≡ 0
unfolding count
count_none f zero h = refl
count_none f (suc n) h = rw (h n (omega arith)) (count_none f n (λ v l. h v (omega arith)))

-- no used node's mark ends up different
abbrev Stays : Doc → Type 0
Stays d = (v : ℕ) → v < d.used → mark d v ≡ mended_mark d.rows d.marks v

module _ (d : Doc) where
  -- then the row stays
  stays_marks : d.used ≤ length d.marks → Stays d → mended_marks d ≡ d.marks
  unfolding mended_marks front
  stays_marks h stays =
      rw (← tab_ext (mark d) (mended_mark d.rows d.marks) d.used stays, front-take d.used d.marks h)
      (take-append-drop d.used d.marks)

  -- it does where nothing is listed
  none_stays : changes d ≡ 0 → Stays d
  unfolding changes
  none_stays e v h = go (changed d v) refl
    where
      go : (b : Bool) → changed d v ≡ b → mark d v ≡ mended_mark d.rows d.marks v
      go true q = absurd (omega (arith, count_holds (changed d) v d.used h q))
      go false q = changed-same d v q

  -- no entry: the list stays
  pub none_list : changes d ≡ 0 → (list : List ℕ) → change_list d list ≡ list
  unfolding change_list changes
  none_list e list = rw (e, empty (change_words d d.used) (rw (words_length d d.used, e) refl)) refl
    where
      empty : (ws : List ℕ) → length ws ≡ 0 → ws ≡ []
      empty [] z = refl
      empty (w ∷ ws) z = absurd (omega arith)

-- right marks stay as they are
module _ (d : Doc) (fine : document_check d ≡ Fine) where
  fine_stays : Stays d
  fine_stays =
      downwards d (document_shape d fine) (λ v. mark d v ≡ mended_mark d.rows d.marks v)
      (mark-root d fine ∙ sym (mended-root d.rows d.marks))
      (λ v some h above. go v some h above (ℕ_discrete (mark d v) 0))
    where
      go : (v : ℕ) → 0 < v → v < d.used → mark d (parent d.rows v) ≡ mended_mark d.rows d.marks (parent d.rows v) → Dec (mark d v ≡ 0) →
          mark d v ≡ mended_mark d.rows d.marks v
      go v some h above (yes e) = omega (arith, mended_kept d (document_shape d fine) v some h e, mark_above d fine v some h)
      go v some h above (no e) = omega (arith, mended-own d (document_shape d fine) v some h e, mark-bit d fine v h)

  -- so their row does
  pub same_marks : mended_marks d ≡ d.marks
  same_marks = stays_marks d (shape_facts d (document_shape d fine)).3 fine_stays

  -- and nothing changes
  pub same_none : changes d ≡ 0
  unfolding changes
  same_none = count_none (changed d) d.used (λ v h. same-changed d v (fine_stays v h))

-- and back: where nothing changes
module _ (d : Doc) (shape : shape_check d ≡ Fine) (none : changes d ≡ 0) where
  -- the marks stay
  pub none_marks : mended_marks d ≡ d.marks
  none_marks = stays_marks d (shape_facts d shape).3 (none_stays d none)

  -- and they are right
  pub none_document : document_check d ≡ Fine
  none_document = rw none_marks at (mended-document d shape)

-- a second mending changes nothing
pub mended_twice : (d : Document) → shape_check d.tables ≡ Fine → mended (mended d) ≡ mended d
unfolding mended
mended_twice d shape = rw (same_marks (mended_tables d.tables) (mended-document d.tables shape)) refl
