-- The plan printer: lines in, of which the first may name the mode; a line a frame out, or the first refusal.
use Rattle.std.specs.Prelude.{ℕ, ◌+◌, ◌-◌, ◌≤◌, ◌<◌, ◌≡◌, List, [], ◌∷◌, ◌++◌, ◌||◌, cond, eqb, leb, length, get_or, Result, Err}
use Rattle.tables.specs.Limits.{batch_limit}
use Rattle.tables.specs.Checks.{◌then◌, test, refuse, Checked, Fine}
use Rattle.tables.specs.declared.refusal.Refusal.{Refusal}
use Rattle.tables.specs.Refusals.{number}
use Rattle.conflict.specs.Conflict.{Update}
use Rattle.order.specs.Frames.{Frame, At}
use Rattle.batch_mode.specs.Modes.{relation_of, mode_of}
use Rattle.batch_mode.specs.declared.Mode.{Mode}
use Rattle.batch_mode.specs.declared.Mode.TheVariants as mode
use Rattle.batch_frame.specs.Frames.{kind, end_of, frame_check}
use Rattle.batch_check.specs.Batches.{batch_of}
use Rattle.batch_plan.specs.Batch.{WordIs}
use Rattle.text_digits.specs.Digits.{words_of}
use Rattle.text_line_in.specs.Lines.{line_check}
use Rattle.text_first_line.specs.FirstLine.{line_end, line_at, first_words, ModeLine, mode_line_check, behind_first}
use Rattle.text_plan_lines.specs.Printing.{refusal_text, plan_text, Answered}

-- line l behind n lines of words b: 13; 10, words first; as a frame; words left over 9
unfoldable pub take_check : List ℕ → ℕ → List ℕ → Checked
take_check l n b =
    line_check l (n + 1)
    then test (leb (length (b ++ words_of l)) batch_limit) (refuse 10 6 batch_limit)
    then frame_check (b ++ words_of l) n (length b)
    then test (eqb (end_of (b ++ words_of l) (length b)) (length (b ++ words_of l))) (refuse 9 6 (end_of (b ++ words_of l) (length b)))

-- how the lines end: at the first refusal, with its line and the number of words before that line; or all are taken, with their words and the kinds
-- of their frames
pub data Outcome : Type 0 where
  stopped : (line before : ℕ) → Refusal → Outcome
  taken : (words kinds : List ℕ) → Outcome

-- the lines from a place on, behind n lines of words b, whose frames have these kinds
pub data Lines (s : List ℕ) : ℕ → ℕ → List ℕ → List ℕ → Outcome → Type 0 where
  none : {at n : ℕ} {b kinds : List ℕ} → length s ≤ at → Lines s at n b kinds (taken b kinds)
  bad : {at n : ℕ} {b kinds : List ℕ} {r : Refusal} → at < length s → take_check (line_at s at) n b ≡ Err r
      → Lines s at n b kinds (stopped (n + 1) (length b) r)
  good : {at n : ℕ} {b kinds : List ℕ} {o : Outcome} → at < length s → take_check (line_at s at) n b ≡ Fine
      → Lines s (line_end s at + 1) (n + 1) (b ++ words_of (line_at s at)) (kinds ++ (kind (b ++ words_of (line_at s at)) (length b) ∷ [])) o
      → Lines s at n b kinds o

-- the plan of a batch in mode m: each frame's word
pub record PlanIs (m : Mode) (b plan : List ℕ) : Type 0 where
  pub words : {k : ℕ} {f : Frame (List ℕ) Update} → At (batch_of b) k f → WordIs (relation_of m) (batch_of b) k f (get_or plan k 0)

-- the offset in the line, which is counted from its own first word: 0 for refusals 13 and 10
unfoldable pub offset_in : ℕ → Refusal → ℕ
offset_in before r = cond (eqb (number r.reason) 13 || eqb (number r.reason) 10) 0 (r.place - before)

-- what is printed in mode m for the lines of frames, with so many lines above them: at a refusal only FFFF, the line number, the refusal number and the
-- offset in that line; else the plan
pub data PrintsFrames (m : Mode) (above : ℕ) (s : List ℕ) : List ℕ → Type 0 where
  refusal : {line before : ℕ} {r : Refusal} → Lines s 0 0 [] [] (stopped line before r) → PrintsFrames m above s (refusal_text (above + line) (number r.reason) (offset_in before r))
  plan : {b kinds plan : List ℕ} → Lines s 0 0 [] [] (taken b kinds) → PlanIs m b plan → PrintsFrames m above s (plan_text kinds plan (length kinds))

-- what is printed: without a mode line the mode is deep; a mode line is no frame, prints nothing, and counts in line numbers only; a wrong one is refused
pub data Prints (s : List ℕ) : List ℕ → Type 0 where
  unnamed : {text : List ℕ} → (ModeLine s → ⊥) → PrintsFrames mode.Deep 0 s text → Prints s text
  named : {text : List ℕ} → ModeLine s → mode_line_check (first_words s) ≡ Fine → PrintsFrames (mode_of (get_or (first_words s) 1 0)) 1 (behind_first s) text → Prints s text
  misnamed : {r : Refusal} → ModeLine s → mode_line_check (first_words s) ≡ Err r → Prints s (refusal_text 1 (number r.reason) r.place)

-- what printing promises
pub record PrintedAs (s before after : List ℕ) (answer : Result ℕ Refusal) : Type 0 where
  pub text : List ℕ
  pub prints : Prints s text
  pub answered : Answered text before after answer
