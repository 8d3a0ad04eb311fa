-- Inside: what the functions of the plan printer ask and promise.
use Rattle.tables.specs.Checks.{Fine}
use Rattle.std.specs.Prelude.{ℕ, ◌+◌, ◌/◌, ◌≤◌, ◌≡◌, List, [], ◌++◌, length, take, Result, Ok, Err}
use Rattle.tables.specs.Limits.{batch_limit, digit_limit}
use Rattle.tables.specs.declared.refusal.Refusal.{Refusal}
use Rattle.tables.specs.Refusals.{number}
use Rattle.tables.specs.Refusals.{number}
use Rattle.batch_mode.specs.declared.Mode.{Mode}
use Rattle.text_digits.specs.Digits.{words_of}
use Rattle.text_plan_lines.specs.Printing.{plan_text, Answered}
use Rattle.text_printer.specs.Printer.{take_check, stopped, taken, Lines, PlanIs, PrintsFrames}
use Rattle.text_printer.specs.declared.All.{All}
use Rattle.text_printer.specs.declared.Stop.{Stop}

-- a batch with room for one more line behind the words in use
pub record Roomy (used : ℕ) (batch : List ℕ) : Type 0 where
  pub within : used ≤ batch_limit
  pub room : batch_limit + digit_limit / 4 ≤ length batch

-- a line taken: its words behind those in use, or its refusal
abbrev pub TakenAs : List ℕ → ℕ → ℕ → List ℕ → List ℕ → Result ℕ Refusal → Type 0
TakenAs l n used before after (Err r) = take_check l n (take used before) ≡ Err r
TakenAs l n used before after (Ok w) =
    (take_check l n (take used before) ≡ Fine)
    × (length after ≡ length before)
    × (w ≡ used + length (words_of l))
    × (take w after ≡ take used before ++ words_of l)

-- all lines taken, with the frames and the words in use; or the first refusal
abbrev pub RanAs : List ℕ → List ℕ → List ℕ → Result All Stop → Type 0
RanAs s batch kinds (Err stop) = Lines s 0 0 [] [] (stopped stop.line stop.before stop.why)
RanAs s batch kinds (Ok all) =
    Lines s 0 0 [] [] (taken (take all.words batch) (take all.frames kinds))
    × (all.words ≤ length batch)
    × (all.frames ≤ length kinds)

-- the place of a refusal lies in the line behind so many words, or is not asked for
pub record InLine (before : ℕ) (why : Refusal) : Type 0 where
  pub reached : (number why.reason ≡ 13 → ⊥) → (number why.reason ≡ 10 → ⊥) → before ≤ why.place

-- the plan of a batch is printed
pub record PlanPrinted (m : Mode) (b kinds before after : List ℕ) (answer : Result ℕ Refusal) : Type 0 where
  pub plan : List ℕ
  pub is : PlanIs m b plan
  pub answered : Answered (plan_text kinds plan (length kinds)) before after answer

-- what the lines of frames print is printed, with so many lines above them
pub record LinesPrinted (m : Mode) (above : ℕ) (s before after : List ℕ) (answer : Result ℕ Refusal) : Type 0 where
  pub text : List ℕ
  pub prints : PrintsFrames m above s text
  pub answered : Answered text before after answer
