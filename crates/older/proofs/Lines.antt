-- A line that one installation takes as a frame: what another answers to it, and how long it can be.
use Prim.Native.Nat.{ℕ, ◌+◌, ◌*◌, ◌/◌, ◌%◌, ◌≤◌}
use mathlib.Core.Path.{◌≡◌, refl, sym, ◌∙◌}
use mathlib.Core.Bool.{Bool, true, false, ◌&&◌}
use mathlib.Core.List.{List, ◌++◌}
use native.Mathlib.Omega.{arith}
use lib.Dec.{eqb, ltb, leb}
use lib.ListN.{length, length-append}
use borrow.Author.Tests.{eqb-true}
use Rattle.tables.specs.Limits.{batch_limit}
use Rattle.tables.specs.Checks.{◌then◌, test, refuse, each, Fine}
use Rattle.tables.proofs.Accepted.{held, then_first, then_second}
use Rattle.selection.proofs.Runs.{both}
use Rattle.batch_frame.specs.Frames.{end_of}
use Rattle.text_digits.specs.Digits.{words_of}
use Rattle.text_digits.proofs.Returning.{length-words_of}
use Rattle.text_line_in.specs.Lines.{character_check}
use Rattle.older.specs.Installations.{Installation, Within, longest, frame_in, line_in, take_in}
use Rattle.older.specs.Answers.{to_frame, to_line}
use Rattle.older.proofs.Limits.{then_fine, test_more}
use Rattle.older.proofs.Frames.{frame_other, to_frame_kept, frame_most}

-- of three tests that hold together, the first two hold
first_two : (x y z : Bool) → (x && (y && z)) ≡ true → (other : Bool) → (x && (y && other)) ≡ other
first_two x y z e other = both x (y && z) e (λ a q. both y z q (λ d _. rw (a, d)))

module _ (i j : Installation) where
  line_other : (s : List ℕ) (line : ℕ) → line_in i s line ≡ Fine → line_in j s line ≡ test (leb (length s) j.most_digits) (refuse 13 6 line)
  unfolding line_in
  line_other s line e =
      let right : test (ltb 0 (length s) && (eqb (length s % 4) 0 && leb (length s) i.most_digits)) (refuse 13 6 line) ≡ Fine = then_first (test (ltb 0 (length s) && (eqb (length s % 4) 0 && leb (length s) i.most_digits)) (refuse 13 6 line)) _ e in
      rw (
        first_two (ltb 0 (length s)) (eqb (length s % 4) 0) (leb (length s) i.most_digits) (held _ _ right) (leb (length s) j.most_digits),
        then_second (test (ltb 0 (length s) && (eqb (length s % 4) 0 && leb (length s) i.most_digits)) (refuse 13 6 line)) (each (character_check s line) 0 (length s)) e,
        then_fine (test (leb (length s) j.most_digits) (refuse 13 6 line)),
      )

  module _ (l : List ℕ) (n : ℕ) (b : List ℕ) (e : take_in i l n b ≡ Fine) where
    behind : (test (leb (length (b ++ words_of l)) batch_limit) (refuse 10 6 batch_limit) then frame_in i (b ++ words_of l) n (length b) then test (eqb (end_of (b ++ words_of l) (length b)) (length (b ++ words_of l))) (refuse 9 6 (end_of (b ++ words_of l) (length b)))) ≡ Fine
    unfolding take_in
    behind = then_second (line_in i l (n + 1)) _ e

    frames : (frame_in i (b ++ words_of l) n (length b) then test (eqb (end_of (b ++ words_of l) (length b)) (length (b ++ words_of l))) (refuse 9 6 (end_of (b ++ words_of l) (length b)))) ≡ Fine
    frames = then_second (test (leb (length (b ++ words_of l)) batch_limit) (refuse 10 6 batch_limit)) _ behind

    pub take_other : take_in j l n b ≡ to_line j l n b
    unfolding take_in to_line
    take_other =
        rw (
          line_other l (n + 1) (then_first (line_in i l (n + 1)) _ e),
          then_first (test (leb (length (b ++ words_of l)) batch_limit) (refuse 10 6 batch_limit)) _ behind,
          frame_other i j (b ++ words_of l) n (length b) (then_first (frame_in i (b ++ words_of l) n (length b)) _ frames),
          then_second (frame_in i (b ++ words_of l) n (length b)) _ frames,
          then_fine (to_frame j (b ++ words_of l) (length b)),
        )

-- a line is taken by an installation whose limits are no less
module _ (o i : Installation) (w : Within o i) (l : List ℕ) (n : ℕ) (b : List ℕ) where
  to_line_kept : to_line o l n b ≡ Fine → to_line i l n b ≡ Fine
  unfolding to_line
  to_line_kept e =
      rw (test_more (length l) o.most_digits i.most_digits _ w.digits (then_first (test (leb (length l) o.most_digits) (refuse 13 6 (n + 1))) _ e))
      (to_frame_kept o i w (b ++ words_of l) (length b) (then_second (test (leb (length l) o.most_digits) (refuse 13 6 (n + 1))) _ e))

  pub take_kept : take_in o l n b ≡ Fine → take_in i l n b ≡ Fine
  take_kept e = take_other o i l n b e ∙ to_line_kept (sym (take_other o o l n b e) ∙ e)

-- a line that is taken has no more digits than the longest frame
module _ (i : Installation) (l : List ℕ) (n : ℕ) (b : List ℕ) (e : take_in i l n b ≡ Fine) where
  fours : length l % 4 ≡ 0
  unfolding take_in line_in
  fours =
      let line : line_in i l (n + 1) ≡ Fine = then_first (line_in i l (n + 1)) _ e in
      let right : (ltb 0 (length l) && (eqb (length l % 4) 0 && leb (length l) i.most_digits)) ≡ true = held _ _ (then_first (test (ltb 0 (length l) && (eqb (length l % 4) 0 && leb (length l) i.most_digits)) (refuse 13 6 (n + 1))) _ line) in
      both (ltb 0 (length l)) (eqb (length l % 4) 0 && leb (length l) i.most_digits) right
      (λ _ q. both (eqb (length l % 4) 0) (leb (length l) i.most_digits) q (λ h _. eqb-true (length l % 4) 0 h))

  ends : end_of (b ++ words_of l) (length b) ≡ length (b ++ words_of l)
  ends = eqb-true (end_of (b ++ words_of l) (length b)) (length (b ++ words_of l)) (held _ _ (then_second (frame_in i (b ++ words_of l) n (length b)) _ (frames i i l n b e)))

  within : to_frame i (b ++ words_of l) (length b) ≡ Fine
  within =
      let frame : frame_in i (b ++ words_of l) n (length b) ≡ Fine = then_first (frame_in i (b ++ words_of l) n (length b)) _ (frames i i l n b e) in
      sym (frame_other i i (b ++ words_of l) n (length b) frame) ∙ frame

  pub line_most : length l ≤ longest i
  line_most =
      let words : length (b ++ words_of l) ≡ length b + length l / 4 = length-append b (words_of l) ∙ rw (length-words_of l) in
      omega (arith, frame_most i (b ++ words_of l) (length b) within, ends, words, fours)
