-- The marks of a mended document: where they stand, and that the document then meets no refusal.
use Prim.Native.Nat.{ℕ, zero, suc, ◌<◌, ◌≤◌}
use mathlib.Core.Path.{◌≡◌, refl, ◌∙◌}
use native.Mathlib.Nat.{zero-add}
use native.Mathlib.Omega.{arith}
use lib.ListN.{length, get_or, drop}
use borrow.Author.Tests.{ne_eqb, le-leb}
use Rattle.tables.specs.Words.{parent}
use Rattle.tables.specs.Documents.{Doc, doc, mark}
use Rattle.tables.specs.Checks.{each, used_check, shape_check, mark_right, mark_check, document_check, Fine}
use Rattle.tables.proofs.Accepted.{each_all, then_both}
use Rattle.tables.proofs.Soundness.{shape_facts, document_parts}
use Rattle.selection.proofs.Lists.{get_or-tab-before, get_or-tab-behind, length-tab-drop}
use Rattle.identities.specs.Documents.{Document}
use Rattle.identities.specs.Checks.{identities_check, whole_check}
use Rattle.identities.proofs.Checks.{whole_fine}
use Rattle.mending.specs.Mending.{mended_mark, mended_marks, mended}
use Rattle.mending.proofs.Marks.{mended-bit, mended-root}
use Rattle.mending.proofs.Down.{falls, mended_above}

-- the tables of a mended document
abbrev pub mended_tables : Doc → Doc
mended_tables d = doc d.rows (mended_marks d) d.used

module _ (d : Doc) where
  -- marks behind the used count stay
  pub mended-behind : (v : ℕ) → d.used ≤ v → get_or (mended_marks d) v 0 ≡ mark d v
  unfolding mended_marks
  mended-behind = get_or-tab-behind (mended_mark d.rows d.marks) d.used d.marks

  -- a used node has its mended mark
  pub mended-mark : (v : ℕ) → v < d.used → get_or (mended_marks d) v 0 ≡ mended_mark d.rows d.marks v
  unfolding mended_marks
  mended-mark = get_or-tab-before (mended_mark d.rows d.marks) d.used (drop d.used d.marks)

  -- there are as many marks as before
  pub mended-length : d.used ≤ length d.marks → length (mended_marks d) ≡ length d.marks
  unfolding mended_marks
  mended-length = length-tab-drop (mended_mark d.rows d.marks) d.used d.marks

module _ (d : Doc) (shape : shape_check d ≡ Fine) where
  -- no used count, parent or label is touched
  shape_stays : shape_check (mended_tables d) ≡ Fine
  unfolding shape_check used_check
  shape_stays = rw (mended-length d (shape_facts d shape).3) shape

  -- every mark is right
  mark_right_lem : (v : ℕ) → v < d.used → mark_check d.rows (mended_marks d) v ≡ Fine
  unfolding mark_check mark_right
  mark_right_lem zero h = rw (mended-mark d 0 h, mended-root d.rows d.marks) refl
  mark_right_lem (suc v) h =
      let up = parent d.rows (suc v) in
      let fall : up < suc v = falls d shape (suc v) (omega arith) h in
      rw (
        ne_eqb (suc v) 0 (λ e. omega arith),
        mended-mark d (suc v) h,
        mended-mark d up (omega arith),
        le-leb (mended_mark d.rows d.marks (suc v)) 1 (mended-bit d.rows d.marks (suc v)),
        le-leb (mended_mark d.rows d.marks up) (mended_mark d.rows d.marks (suc v)) (mended_above d shape (suc v) (omega arith) h),
      )
      refl

  -- so the mended tables meet no refusal
  pub mended-document : document_check (doc d.rows (mended_marks d) d.used) ≡ Fine
  mended-document =
      document_parts (mended_tables d)
      ∙ then_both (shape_check (mended_tables d)) (each (mark_check d.rows (mended_marks d)) 0 d.used) shape_stays
      (each_all (mark_check d.rows (mended_marks d)) 0 d.used (λ v h. rw zero-add (mark_right_lem v h)))

-- nor does the document, where its identities are right
pub mended_accepted : (d : Document) → shape_check d.tables ≡ Fine → identities_check d.ids d.tables.used d.next ≡ Fine → whole_check (mended d) ≡ Fine
unfolding mended
mended_accepted d shape ids = whole_fine (mended d) (mended-document d.tables shape) ids
