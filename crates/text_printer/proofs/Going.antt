-- Going from line to line: what the lines from here on end in, all lines end in.
use Rattle.std.specs.Prelude.{Result, Ok, Err}
use Prim.Native.Nat.{ℕ, ◌+◌, ◌-◌, ◌/◌, ◌≤◌, ◌<◌}
use mathlib.Core.Path.{◌≡◌, refl, sym, ◌∙◌}
use mathlib.Core.List.{List, [], ◌∷◌, ◌++◌}
use native.Mathlib.Numerals.{add-one}
use native.Mathlib.Omega.{arith}
use lib.Dec.{eqb, leb}
use lib.ListN.{length, get_or, take, set, length-append, length-set}
use lib.Seq.{length-take-le, get_or-take, take-suc-set}
use borrow.Author.Tests.{leb-true, eqb-true}
use Rattle.tables.specs.Limits.{batch_limit, frame_limit, digit_limit}
use Rattle.tables.specs.Checks.{◌then◌, test, refuse, Fine}
use Rattle.tables.specs.declared.refusal.Refusal.{Refusal}
use Rattle.tables.proofs.Accepted.{held, then_first, then_second}
use Rattle.batch_parts.specs.Parts.{part}
use Rattle.batch_frame.specs.Frames.{kind, end_of, frame_check}
use Rattle.batch_frame.proofs.Accepted.{frame_below}
use Rattle.batch_frame.proofs.Ending.{end_behind}
use Rattle.text_digits.specs.Digits.{words_of}
use Rattle.text_parts.proofs.Finding.{next-least, next_most}
use Rattle.text_line_in.specs.Lines.{line_check}
use Rattle.text_first_line.specs.FirstLine.{line_end, line_at}
use Rattle.text_printer.specs.Printer.{take_check, Outcome, Lines, none, bad, good}
use Rattle.text_printer.specs.Reading.{Roomy, TakenAs, RanAs}
use Rattle.batch_whole.specs.Whole.{whole_check}

-- what a line that is taken says
module _ (l : List ℕ) (n : ℕ) (b : List ℕ) (e : take_check l n b ≡ Fine) where
  pub taken_line : line_check l (n + 1) ≡ Fine
  unfolding take_check
  taken_line = then_first (line_check l (n + 1)) _ e

  behind : whole_check (b ++ words_of l) n (length b) ≡ Fine
  unfolding take_check
  behind = then_second (line_check l (n + 1)) _ e

  pub taken_within : length (b ++ words_of l) ≤ batch_limit
  taken_within = leb-true (length (b ++ words_of l)) batch_limit (held (leb (length (b ++ words_of l)) batch_limit) _ (then_first (test (leb (length (b ++ words_of l)) batch_limit) (refuse 10 6 batch_limit)) _ behind))

  as_frame : (frame_check (b ++ words_of l) n (length b) then test (eqb (end_of (b ++ words_of l) (length b)) (length (b ++ words_of l))) (refuse 9 6 (end_of (b ++ words_of l) (length b)))) ≡ Fine
  as_frame = then_second (test (leb (length (b ++ words_of l)) batch_limit) (refuse 10 6 batch_limit)) _ behind

  pub taken_frame : frame_check (b ++ words_of l) n (length b) ≡ Fine
  taken_frame = then_first (frame_check (b ++ words_of l) n (length b)) _ as_frame

  pub taken_end : end_of (b ++ words_of l) (length b) ≡ length (b ++ words_of l)
  taken_end = eqb-true (end_of (b ++ words_of l) (length b)) (length (b ++ words_of l)) (held (eqb (end_of (b ++ words_of l) (length b)) (length (b ++ words_of l))) _ (then_second (frame_check (b ++ words_of l) n (length b)) _ as_frame))

  pub taken_below : n < frame_limit
  taken_below = frame_below (b ++ words_of l) n (length b) taken_frame

-- before a line: n lines are taken, their words and kinds are kept
pub record Going (s batch₀ kinds₀ batch kinds : List ℕ) (at n used : ℕ) : Type 0 where
  pub words : length batch ≡ length batch₀
  pub frames : length kinds ≡ length kinds₀
  pub within : used ≤ batch_limit
  pub few : n ≤ frame_limit
  pub back : {o : Outcome} → Lines s at n (take used batch) (take n kinds) o → Lines s 0 0 [] [] o

pub go_start : (s batch kinds : List ℕ) → Going s batch kinds batch kinds 0 0 0
go_start s batch kinds = record { words = refl; frames = refl; within = omega arith; few = omega arith; back = λ lines. lines }

module _ {s batch₀ kinds₀ batch kinds : List ℕ} {at n used : ℕ} (going : Going s batch₀ kinds₀ batch kinds at n used)
    (room : batch_limit + digit_limit / 4 ≤ length batch₀) (places : frame_limit ≤ length kinds₀) where
  pub go_roomy : Roomy used batch
  go_roomy = record { within = going.within; room = omega (arith, room, going.words) }

  pub go_end : length s ≤ at → RanAs s batch kinds (Ok (record { frames = n; words = used }))
  go_end h = (going.back (none h), omega (arith, going.within, going.words, room), omega (arith, going.few, going.frames, places))

  module _ (h : at < length s) {end : ℕ} (is : end ≡ line_end s at) where
    line_is : part s at (end - at) ≡ line_at s at
    line_is = rw is refl

    pub go_least : at ≤ end
    go_least = rw is (next-least 10 s at)

    pub go_most : end ≤ length s
    go_most = rw is (next_most 10 s at (omega (arith, h)))

    module _ (after : List ℕ) (got : Result ℕ Refusal) (e : TakenAs (part s at (end - at)) n used batch after got) where
      front_long : length (take used batch) ≡ used
      front_long = length-take-le used batch (omega (arith, going.within, going.words, room))

      pub go_stop : {r : Refusal} → got ≡ Err r → RanAs s after kinds (Err (record { line = n + 1; before = used; why = r }))
      go_stop {r} told =
          let refused : take_check (part s at (end - at)) n (take used batch) ≡ Err r = rw told at e in
          rw front_long at (going.back (bad h (rw line_is at refused)))

      module _ {w : ℕ} (told : got ≡ Ok w) where
        took_words : TakenAs (part s at (end - at)) n used batch after (Ok w)
        took_words = rw told at e

        fine : take_check (line_at s at) n (take used batch) ≡ Fine
        fine = rw line_is at took_words.0

        front : take w after ≡ take used batch ++ words_of (line_at s at)
        front = rw line_is at took_words.3

        all_long : length (take used batch ++ words_of (line_at s at)) ≡ w
        all_long =
            let here : w ≡ used + length (words_of (line_at s at)) = rw line_is at took_words.2 in
            rw (length-append, front_long) (sym here)

        pub go_long : length after ≡ length batch₀
        go_long = took_words.1 ∙ going.words

        pub go_within : w ≤ batch_limit
        go_within = omega (arith, all_long, taken_within (line_at s at) n (take used batch) fine)

        pub go_below : n < frame_limit
        go_below = taken_below (line_at s at) n (take used batch) fine

        pub go_more : used < w
        go_more = omega (arith, all_long, front_long, taken_end (line_at s at) n (take used batch) fine, end_behind (take used batch ++ words_of (line_at s at)) (length (take used batch)))

        pub go_used : used < length after
        go_used = omega (arith, go_long, go_within, go_more, room)

        pub go_place : n < length kinds
        go_place = omega (arith, go_below, going.frames, places)

        pub go_on : Going s batch₀ kinds₀ after (set kinds n (get_or after used 0)) (end + 1) (n + 1) w
        go_on = record {
          words = go_long;
          frames = length-set kinds n (get_or after used 0) ∙ going.frames;
          within = go_within;
          few = omega (arith, go_below);
          back = λ lines. going.back (good h fine (next lines));
        }
          where
            is_kind : get_or after used 0 ≡ kind (take used batch ++ words_of (line_at s at)) (length (take used batch))
            is_kind = rw (← front, front_long) (sym (get_or-take w after used 0 go_more))

            kinds_are : take (n + 1) (set kinds n (get_or after used 0)) ≡ take n kinds ++ (kind (take used batch ++ words_of (line_at s at)) (length (take used batch)) ∷ [])
            kinds_are = rw (add-one n, ← is_kind) (take-suc-set kinds n (get_or after used 0) go_place)

            next : {o : Outcome} → Lines s (end + 1) (n + 1) (take w after) (take (n + 1) (set kinds n (get_or after used 0))) o
                → Lines s (line_end s at + 1) (n + 1) (take used batch ++ words_of (line_at s at)) (take n kinds ++ (kind (take used batch ++ words_of (line_at s at)) (length (take used batch)) ∷ [])) o
            next lines = rw (is, front, kinds_are) at lines
