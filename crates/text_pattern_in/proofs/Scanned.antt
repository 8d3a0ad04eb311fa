-- What is left of a text decides whether it is right, and how long its longest start is that some right text has.
use Prim.Native.Nat.{ℕ, suc, ◌+◌, ◌≤◌, ◌<◌}
use mathlib.Core.Path.{◌≡◌, ◌∙◌}
use mathlib.Core.Bool.{Bool, true, false, cond}
use mathlib.Core.List.{List, []}
use native.Mathlib.Numerals.{add-one}
use native.Mathlib.Omega.{arith}
use lib.Dec.{ltb}
use lib.ListN.{length, get_or, drop, drop_of_length-le}
use lib.Seq.{drop-cons}
use borrow.Author.Tests.{lt-ltb, le-ltb}
use Rattle.tables.specs.Checks.{refuse, Checked, Fine}
use Rattle.text_parts.specs.Scans.{scanned, lasting}
use Rattle.text_pattern.specs.Scan.{kind_of, next_of, byte_on, after, on, ends, lasts, right_text, longest}
use Rattle.text_pattern.specs.Meaning.{text_check}
use Rattle.text_pattern.proofs.Stages.{lost}

pub scan_start : (s : List ℕ) → longest s ≡ 0 + lasts 0 (drop 0 s)
unfolding longest
scan_start s = omega arith

module _ (s : List ℕ) (q i : ℕ) (stands : after 0 s ≡ after q (drop i s)) (long : longest s ≡ i + lasts q (drop i s)) where
  module _ (h : i < length s) {k : ℕ} (kind : k ≡ kind_of (get_or s i 0)) {r : ℕ} (is : r ≡ next_of q k) where
    moved : after 0 s ≡ after r (drop (suc i) s)
    unfolding after scanned byte_on
    moved = stands ∙ rw (drop-cons s i 0 h, is, kind)

    left : longest s ≡ i + cond (ltb r 5) (suc (lasts r (drop (suc i) s))) 0
    unfolding lasts lasting byte_on on
    left = long ∙ rw (drop-cons s i 0 h, is, kind)

    pub scan_on : r ≤ 4 → (after 0 s ≡ after r (drop (i + 1) s)) × (longest s ≡ i + 1 + lasts r (drop (i + 1) s))
    scan_on n =
        let one : i + 1 ≡ suc i = add-one i in
        let on : ltb r 5 ≡ true = lt-ltb r 5 (omega arith) in
        let more : longest s ≡ i + suc (lasts r (drop (suc i) s)) = left ∙ rw on in
        (rw one moved, rw one (more ∙ omega arith))

    pub scan_off : 4 < r → {answer : Checked} → answer ≡ refuse 14 7 i → answer ≡ text_check s
    unfolding text_check right_text
    scan_off n e =
        let off : ltb r 5 ≡ false = le-ltb r 5 (omega arith) in
        let more : longest s ≡ i + 0 = left ∙ rw off in
        let there : longest s ≡ i = more ∙ omega arith in
        rw (moved, lost r (drop (suc i) s) (omega arith), there) e

  module _ (h : length s ≤ i) where
    at_end : after 0 s ≡ q
    unfolding after scanned
    at_end = stands ∙ rw (drop_of_length-le s {i = i} h)

    module _ {b : Bool} (is : b ≡ ends q) where
      pub scan_end : b ≡ true → Fine ≡ text_check s
      unfolding text_check right_text
      scan_end e = rw (at_end, ← is, e)

      pub scan_short : i ≤ length s → b ≡ false → {answer : Checked} → answer ≡ refuse 14 7 (length s) → answer ≡ text_check s
      unfolding text_check right_text lasts lasting
      scan_short k e a =
          let none : drop i s ≡ [] = drop_of_length-le s {i = i} h in
          let more : longest s ≡ i + 0 = long ∙ rw none in
          let there : longest s ≡ length s = more ∙ omega arith in
          rw (at_end, ← is, e, there) a
