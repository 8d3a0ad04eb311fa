-- The scan finds exactly the right texts, and the longest start that a right text has.
use Prim.Native.Nat.{ℕ, zero, suc, ◌<◌}
use mathlib.Core.Path.{◌≡◌, refl}
use mathlib.Core.Bool.{Bool, true, false, false≢true}
use mathlib.Core.List.{List, [], ◌∷◌, ◌++◌}
use native.Mathlib.Omega.{arith}
use lib.Dec.{eqb}
use lib.ListN.{length}
use borrow.Author.Tests.{eqb-true, ltb-true, ltb-false}
use Rattle.selection.proofs.Runs.{either}
use Rattle.text_parts.specs.Scans.{scanned}
use Rattle.text_parts.specs.Starts.{Begins, Longest}
use Rattle.text_parts.proofs.Starts as starts
use Rattle.text_parts.proofs.Starts.{lasting-whole}
use Rattle.text_pattern.specs.Texts.{slash, RightText}
use Rattle.text_pattern.specs.Scan.{kind_of, next_of, byte_on, after, on, ends, lasts, right_text, longest}
use Rattle.text_pattern.proofs.Bytes.{Kind, a_slash, a_star, a_start, a_letter, another, kind}
use Rattle.text_pattern.proofs.Spelled.{first, of_steps, whole_right}
use Rattle.text_pattern.proofs.Stages.{after-append, next-lost, lost-ends, whole-ends, Left, before_step, reads}

-- behind its first slash a text has a step left
slash_first : {t : List ℕ} → Left 1 t → RightText (slash ∷ t)
slash_first (before_step w l) = whole_right (first w l)

reads_0 : (t : List ℕ) {c k : ℕ} → Kind c k → ends (after (next_of 0 k) t) ≡ true → RightText (c ∷ t)
unfolding next_of
reads_0 t a_slash e = slash_first ((reads t).from_1 e)
reads_0 t a_star e = lost-ends 5 t (omega arith) e
reads_0 t (a_start h) e = lost-ends 5 t (omega arith) e
reads_0 t (a_letter h g) e = lost-ends 5 t (omega arith) e
reads_0 t (another h) e = lost-ends 5 t (omega arith) e

-- the scan ends where it has a right text, and only there
pub scan_right : (s : List ℕ) → right_text s ≡ true → RightText s
unfolding right_text after scanned byte_on ends
scan_right [] e = absurd (false≢true e)
scan_right (c ∷ t) e = reads_0 t (kind c) e

pub right_scan : (s : List ℕ) → RightText s → right_text s ≡ true
right_scan s r = rw r.spelled (whole-ends (of_steps r.steps r.right))

-- what ends is not lost
ends_on_lem : (q : ℕ) → ends q ≡ true → on q ≡ true
unfolding ends on
ends_on_lem q e = either (eqb q 2) (eqb q 3) e (λ h. rw (eqb-true q 2 h)) (λ h. rw (eqb-true q 3 h))

-- a text that a right text begins with is not lost, and one that is not lost can be ended
begins_on : (s : List ℕ) → Begins RightText s → on (scanned byte_on 0 s) ≡ true
unfolding right_text after on
begins_on s b = go (on (after 0 s)) refl
  where
    ended : ends (after (after 0 s) b.rest) ≡ true
    ended = rw after-append at (right_scan (s ++ b.rest) b.right)

    go : (t : Bool) → on (after 0 s) ≡ t → t ≡ true
    go true h = refl
    go false h = lost-ends (after 0 s) b.rest (ltb-false (after 0 s) 5 h) ended

-- from a stage some right text ends
record Ending (q : ℕ) : Type 0 where
  rest : List ℕ
  ended : ends (after q rest) ≡ true

ending : (q : ℕ) → q < 5 → Ending q
unfolding after scanned byte_on next_of kind_of ends
ending zero h = record { rest = slash ∷ (42 ∷ []); ended = refl }
ending (suc zero) h = record { rest = 42 ∷ []; ended = refl }
ending (suc (suc zero)) h = record { rest = []; ended = refl }
ending (suc (suc (suc zero))) h = record { rest = []; ended = refl }
ending (suc (suc (suc (suc zero)))) h = record { rest = 42 ∷ []; ended = refl }
ending (suc (suc (suc (suc (suc q))))) h = absurd (omega arith)

on_begins : (s : List ℕ) → on (scanned byte_on 0 s) ≡ true → Begins RightText s
unfolding right_text after on
on_begins s h =
    let e = ending (after 0 s) (ltb-true (after 0 s) 5 h) in
    record { rest = e.rest; right = scan_right (s ++ e.rest) (rw after-append e.ended) }

-- no byte leads back
off_next : (q c : ℕ) → on q ≡ false → on (byte_on q c) ≡ false
unfolding on byte_on
off_next q c e = rw (next-lost q (kind_of c) (ltb-false q 5 e))

-- the scan finds the longest start
pub longest_start : (s : List ℕ) → Longest RightText s (longest s)
unfolding longest lasts on
longest_start = starts.longest_start byte_on on RightText 0 refl on_begins begins_on

-- a right text is its own longest start
pub right_whole : (s : List ℕ) → right_text s ≡ true → longest s ≡ length s
unfolding right_text longest lasts after
right_whole s e = lasting-whole byte_on on off_next 0 s (ends_on_lem (after 0 s) e)
