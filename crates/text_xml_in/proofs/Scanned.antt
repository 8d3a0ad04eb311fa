-- Where the scan stops tells whether the text is right, and how long its longest start is that some right text has.
use Prim.Native.Nat.{ℕ, suc, ◌+◌, ◌-◌, ◌<◌, ◌≤◌}
use mathlib.Core.Path.{◌≡◌, refl, sym, ap, ◌∙◌}
use mathlib.Core.Bool.{Bool, true, false, not, ◌&&◌}
use mathlib.Core.List.{List, []}
use native.Mathlib.Omega.{arith}
use native.Mathlib.Numerals.{add-one}
use borrow.Author.Tests.{not-true, not-false}
use lib.Dec.{eqb}
use lib.ListN.{length, get_or, take}
use lib.Seq.{take-length}
use Rattle.tables.specs.Limits.{word_limit}
use Rattle.tables.specs.Checks.{refuse, Checked, Fine}
use Rattle.text_parts.specs.Scans.{scanned}
use Rattle.text_parts.proofs.Starts.{lasting_at, lasting-whole}
use Rattle.text_xml_form.specs.Scan.{stand, fits, stage_on, number_on, depth_on, goes, next, on, ends, standing, right_tags, longest_tags}
use Rattle.text_xml_form.proofs.Steps.{off_next}
use Rattle.text_xml_form.proofs.Scanning.{right_whole}
use Rattle.text_xml_in.specs.Reading.{tags_check}
use Rattle.text_xml_in.specs.Levels.{held_levels, held_at, Scans, Byte}
use Rattle.text_xml_in.proofs.Standing.{stands_start, stands_on_lem, stands_depth, stands_small, next_stops}
use Rattle.text_xml_in.proofs.Keeping.{fits-held}

-- a text whose longest start is not all of it is refused there
pub short_checked : (s : List ℕ) (i : ℕ) → longest_tags s ≡ i → (right_tags s ≡ true → ⊥) → {answer : Checked} → answer ≡ refuse 14 7 i → answer ≡ tags_check s
unfolding tags_check
short_checked s i e n {answer} a = go (right_tags s) refl
  where
    go : (b : Bool) → right_tags s ≡ b → answer ≡ tags_check s
    go true f = absurd (n f)
    go false f = rw (f, e) a

pub scan_start : (s row : List ℕ) → length row ≡ held_levels → Scans s 0 0 0 0 0 row
unfolding standing scanned
scan_start s row e = record {
  at = stands_start s;
  held = record { long = e; within = omega arith; few = omega arith; labels = λ k x y. absurd (omega arith) };
  closing = λ x y. absurd (omega arith);
}

module _ {s : List ℕ} {i q v d low : ℕ} {row : List ℕ} (here : Scans s i q v d low row) where
  pub scan_small : v < word_limit
  scan_small = stands_small s i q v d here.at

  pub scan_depth : i < length s → d < length s
  scan_depth h = omega (arith, stands_depth s i q v d here.at)

  scan_on : on (standing (take i s)) ≡ true
  scan_on = stands_on_lem s i q v d here.at

  module _ (h : i < length s) {c : ℕ} (is : c ≡ get_or s i 0) {l : ℕ} (label : l ≡ get_or row (held_at (d - 1)) 0) {fit : Bool} (asked : fit ≡ fits q v l d c) where
    fit_goes : fit ≡ goes (standing (take i s)) c
    fit_goes = asked ∙ rw label (fits-held here c)

    pub scan_byte : not fit ≡ false → Byte s i q v c d row
    scan_byte e = record { here = h; is = is; fit = rw label at (sym asked ∙ not-false fit e) }

    pub scan_off : not fit ≡ true → {answer : Checked} → answer ≡ refuse 14 7 i → answer ≡ tags_check s
    unfolding longest_tags standing on
    scan_off e =
        let off = next_stops (standing (take i s)) c (sym fit_goes ∙ not-true fit e) in
        let there : longest_tags s ≡ i = lasting_at next on off_next (stand 0 0 []) s i h scan_on (rw (← is, off)) in
        short_checked s i there (λ r. omega (arith, right_whole s r, there))

  -- one byte on
  pub scan_next : {q₁ v₁ d₁ : ℕ} {row₁ : List ℕ} (c : ℕ) {low₁ : ℕ} → Scans s (suc i) (stage_on q c) (number_on v c) (depth_on q c d) low₁ row₁
      → q₁ ≡ stage_on q c → v₁ ≡ number_on v c → d₁ ≡ depth_on q c d → Scans s (i + 1) q₁ v₁ d₁ low₁ row₁
  scan_next c after a b e = rw (a, b, e, add-one i) after

  module _ (h : length s ≤ i) where
    whole : standing (take i s) ≡ standing s
    whole =
        let same : i ≡ length s = omega (arith, here.at.within) in
        ap standing (rw same (take-length s))

    right_is : right_tags s ≡ (eqb q 6 && eqb d 0)
    unfolding right_tags ends
    right_is = rw (← whole, here.at.stage, here.at.depth)

    module _ {b : Bool} (is : b ≡ (eqb q 6 && eqb d 0)) where
      pub scan_end : b ≡ true → Fine ≡ tags_check s
      unfolding tags_check
      scan_end e = rw (right_is, ← is, e)

      pub scan_short : b ≡ false → {answer : Checked} → answer ≡ refuse 14 7 (length s) → answer ≡ tags_check s
      unfolding tags_check longest_tags standing
      scan_short e a =
          let all : longest_tags s ≡ length s = lasting-whole next on off_next (stand 0 0 []) s (rw (← whole) scan_on) in
          rw (right_is, ← is, e, all) a
