-- The scan finds exactly the right texts, and the longest start that a right text has.
use Prim.Native.Nat.{ℕ, suc}
use mathlib.Core.Path.{◌≡◌, refl, sym, ◌∙◌}
use mathlib.Core.Bool.{Bool, true, false, false≢true}
use mathlib.Core.List.{List, [], ◌++◌}
use native.Mathlib.Omega.{arith}
use lib.Dec.{eqb}
use lib.ListN.{length}
use borrow.Author.Tests.{eqb-true}
use Rattle.selection.proofs.Runs.{both}
use Rattle.text_parts.specs.Scans.{scanned}
use Rattle.text_parts.specs.Starts.{Begins, Longest}
use Rattle.text_parts.proofs.Starts.{scanned-append, longest_start, off_stays, lasting-whole}
use Rattle.text_xml_form.specs.Elements.{RightTags}
use Rattle.text_xml_form.specs.Scan.{Stand, stand, next, on, ends, standing, right_tags, longest_tags}
use Rattle.text_xml_form.proofs.Steps.{off_next}
use Rattle.text_xml_form.proofs.Passing.{root-passed}
use Rattle.text_xml_form.proofs.Stands.{Stands, before_root, behind_less, in_name, behind_slash, in_end, in_end_name, behind_tag, behind_root, nowhere, at_standing}
use Rattle.text_xml_form.proofs.Closing.{stands_begins}

-- behind the root the text is right, and nowhere else may it end
stands_right : {q v : ℕ} {ls s : List ℕ} → Stands q v ls s → ends (stand q v ls) ≡ true → RightTags s
unfolding ends
stands_right before_root e = absurd (false≢true e)
stands_right (behind_less o) e = absurd (false≢true e)
stands_right (in_name o n b) e = absurd (false≢true e)
stands_right (behind_slash o r) e = absurd (false≢true e)
stands_right (in_end o) e = absurd (false≢true e)
stands_right (in_end_name o n b) e = absurd (false≢true e)
stands_right (behind_tag {ls = ls} o) e = absurd (omega (arith, eqb-true (suc (length ls)) 0 e))
stands_right (behind_root x h) e = record { root = x; one = h.one; labels = h.labels; spelled = refl }
stands_right nowhere e = absurd (false≢true e)

-- the scan ends where it has a right text, and only there
pub scan_right : (s : List ℕ) → right_tags s ≡ true → RightTags s
unfolding right_tags
scan_right s e = stands_right (at_standing s) e

pub right_scan : (s : List ℕ) → RightTags s → right_tags s ≡ true
unfolding right_tags ends
right_scan s r = rw (r.spelled, root-passed r.root r.labels r.one)

-- what ends is not lost
ends_on_lem : (x : Stand) → ends x ≡ true → on x ≡ true
unfolding ends on
ends_on_lem x e = both (eqb x.stage 6) (eqb (length x.opened) 0) e (λ h k. rw (eqb-true x.stage 6 h))

-- a text that is not lost can be ended, and one that a right text begins with is not lost
pub on_begins : (s : List ℕ) → on (standing s) ≡ true → Begins RightTags s
on_begins s e = stands_begins (at_standing s) e

pub begins_on : (s : List ℕ) → Begins RightTags s → on (standing s) ≡ true
unfolding standing right_tags
begins_on s b = go (on (standing s)) refl
  where
    more : on (scanned next (standing s) b.rest) ≡ true
    more = ends_on_lem (scanned next (standing s) b.rest) (rw (scanned-append next (stand 0 0 []) s b.rest) at (right_scan (s ++ b.rest) b.right))

    go : (t : Bool) → on (standing s) ≡ t → t ≡ true
    go true e = refl
    go false e = sym (off_stays next on off_next (standing s) b.rest e) ∙ more

-- the scan finds the longest start
pub longest_tags_lem : (s : List ℕ) → Longest RightTags s (longest_tags s)
unfolding longest_tags standing on
longest_tags_lem s = longest_start next on RightTags (stand 0 0 []) refl on_begins begins_on s

-- a right text is its own longest start
pub right_whole : (s : List ℕ) → right_tags s ≡ true → longest_tags s ≡ length s
unfolding right_tags longest_tags standing
right_whole s e = lasting-whole next on off_next (stand 0 0 []) s (ends_on_lem (standing s) e)
