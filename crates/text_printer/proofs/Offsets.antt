-- Where a line is refused: at one of its own words, or at the first behind them.
use Rattle.std.specs.Prelude.{Ok, Err}
use Prim.Native.Nat.{ℕ, ◌+◌, ◌-◌, ◌/◌, ◌≤◌, ◌<◌}
use mathlib.Core.Path.{◌≡◌, refl, sym, ◌∙◌}
use mathlib.Core.List.{List, [], ◌++◌}
use mathlib.Core.Logic.{◌⊎◌, inl, inr}
use native.Mathlib.Omega.{arith}
use lib.Dec.{eqb, leb}
use lib.ListN.{length, length-append}
use borrow.Author.Tests.{eqb-false, ne_eqb}
use Rattle.tables.specs.Limits.{batch_limit, digit_limit}
use Rattle.tables.specs.Checks.{test, refuse, Checked, Fine}
use Rattle.tables.specs.Refusals.{number, numbered}
use Rattle.tables.specs.declared.refusal.Refusal.{Refusal}
use Rattle.tables.proofs.Accepted.{never}
use Rattle.tables.proofs.Refused.{test_why, then_why}
use Rattle.batch_frame.specs.Frames.{end_of, frame_check}
use Rattle.batch_frame.proofs.Ending.{end_behind}
use Rattle.batch_frame.proofs.Accepted.{end_room}
use Rattle.batch_frame.proofs.Faulty.{frame_fault}
use Rattle.text_digits.specs.Digits.{words_of}
use Rattle.text_digits.proofs.Returning.{length-words_of}
use Rattle.text_line_in.specs.Lines.{line_check}
use Rattle.text_line_in.proofs.Promise.{line_short, line_some}
use Rattle.text_first_line.specs.FirstLine.{line_at}
use Rattle.text_first_line.proofs.Lines.{Only, line_only}
use Rattle.text_printer.specs.Printer.{take_check, offset_in, stopped, Lines, bad, good}
use Rattle.text_printer.specs.Faults.{LineFault, in_frame, left_over}

-- a word is named: the offset leads from the line's first to it
offset_word : (before : ℕ) (r : Refusal) → (number r.reason ≡ 13 → ⊥) → (number r.reason ≡ 10 → ⊥) → r.place - before ≡ offset_in before r
unfolding offset_in
offset_word before r line ten = rw (ne_eqb (number r.reason) 13 line, ne_eqb (number r.reason) 10 ten)

-- 13 and 10 name no word of the line
pub offset_none : (before : ℕ) (r : Refusal) → (number r.reason ≡ 13) ⊎ (number r.reason ≡ 10) → offset_in before r ≡ 0
unfolding offset_in
offset_none before r (inl e) = rw e
offset_none before r (inr e) = rw e

-- how many words come with a line
module _ (l : List ℕ) (n : ℕ) (b : List ℕ) (fine : line_check l (n + 1) ≡ Fine) where
  few : length (b ++ words_of l) ≤ length b + digit_limit / 4
  few = rw (length-append, length-words_of) (omega (arith, line_short l (n + 1) fine))

  some : length b < length (b ++ words_of l)
  some = rw (length-append, length-words_of) (omega (arith, line_some l (n + 1) fine))

module _ (l : List ℕ) (n : ℕ) (b : List ℕ) (r : Refusal) (line : number r.reason ≡ 13 → ⊥) (ten : number r.reason ≡ 10 → ⊥) where
  behind_frame : frame_check (b ++ words_of l) n (length b) ≡ Fine
      → test (eqb (end_of (b ++ words_of l) (length b)) (length (b ++ words_of l))) (refuse 9 6 (end_of (b ++ words_of l) (length b))) ≡ Err r
      → LineFault l n b r
  behind_frame frame e =
      let why = test_why (eqb (end_of (b ++ words_of l) (length b)) (length (b ++ words_of l))) _ e in
      let other = eqb-false (end_of (b ++ words_of l) (length b)) (length (b ++ words_of l)) why.0 in
      rw why.1 (left_over (omega (arith, end_room (b ++ words_of l) n (length b) frame, other)))

  line_thirteen : {A : Type 0} → line_check l (n + 1) ≡ Err r → A
  line_thirteen e = go (line_only l (n + 1))
    where
      go : {A : Type 0} → Only (record { reason = numbered 13; table = 6; place = n + 1 }) (line_check l (n + 1)) → A
      go (inl fine) = never e fine
      go (inr why) =
          let same : refuse 13 6 (n + 1) ≡ Err r = sym why ∙ e in
          let thirteen : number r.reason ≡ 13 = cc in
          absurd (line thirteen)

  -- a line that is refused by neither 13 nor 10 has a fault
  pub line_fault : take_check l n b ≡ Err r → LineFault l n b r
  unfolding take_check
  line_fault e =
      then_why (line_check l (n + 1)) _
      line_thirteen
      (λ fine e.
      then_why (test (leb (length (b ++ words_of l)) batch_limit) (refuse 10 6 batch_limit)) _
      (λ f. absurd (ten (rw (test_why (leb (length (b ++ words_of l)) batch_limit) _ f).1)))
      (λ within e.
      then_why (frame_check (b ++ words_of l) n (length b)) _
      (λ f. in_frame (frame_fault (b ++ words_of l) n (length b) (some l n b fine) f))
      behind_frame
      e)
      e)
      e

  line_is : (c : Checked) → line_check l (n + 1) ≡ c → take_check l n b ≡ Err r → line_check l (n + 1) ≡ Fine
  unfolding take_check
  line_is (Ok tt) is e = is
  line_is (Err q) is e =
      let same : Err q ≡ Err r = rw is at e in
      line_thirteen (is ∙ same)

  -- and so has a place at one of its own words, or right behind them
  fault_place : line_check l (n + 1) ≡ Fine → {q : Refusal} → LineFault l n b q → (length b ≤ q.place) × (q.place ≤ length b + digit_limit / 4)
  fault_place fine (in_frame f) = (f.from, omega (arith, f.to, few l n b fine))
  fault_place fine (left_over h) = (omega (arith, end_behind (b ++ words_of l) (length b)), omega (arith, h, few l n b fine))

  take-place : take_check l n b ≡ Err r → (length b ≤ r.place) × (r.place ≤ length b + digit_limit / 4)
  take-place e = fault_place (line_is _ refl e) (line_fault e)

-- at the line that ends the run
stop_place : {s : List ℕ} {at n : ℕ} {b kinds : List ℕ} {l before : ℕ} {r : Refusal} → (number r.reason ≡ 13 → ⊥) → (number r.reason ≡ 10 → ⊥) → Lines s at n b kinds (stopped l before r)
    → (before ≤ r.place) × (r.place ≤ before + digit_limit / 4)
stop_place {s} {at} {n} {b} {r = r} line ten (bad h e) = take-place (line_at s at) n b r line ten e
stop_place line ten (good h e lines) = stop_place line ten lines

module _ {s : List ℕ} {l before : ℕ} {r : Refusal} (line : number r.reason ≡ 13 → ⊥) (ten : number r.reason ≡ 10 → ⊥) (lines : Lines s 0 0 [] [] (stopped l before r)) where
  pub stop_behind : before ≤ r.place
  stop_behind = (stop_place line ten lines).0

  -- the offset leads from the line's first word to the place, and no digit of it is cut
  pub stop_offset : (r.place ≡ before + offset_in before r) × (offset_in before r ≤ digit_limit / 4)
  stop_offset =
      let place = stop_place line ten lines in
      rw (← offset_word before r line ten) (omega (arith, place.0), omega (arith, place.1))
