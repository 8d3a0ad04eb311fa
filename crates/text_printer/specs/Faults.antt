-- What is wrong with a line that is refused as a frame.
use Rattle.std.specs.Prelude.{ℕ, ◌<◌, List, ◌++◌, length}
use Rattle.tables.specs.declared.refusal.Refusal.{Refusal}
use Rattle.batch_frame.specs.Frames.{end_of}
use Rattle.batch_frame.specs.Faults.{named, FaultAt}
use Rattle.text_digits.specs.Digits.{words_of}

-- line l behind n lines of words b: the fault of its frame, which begins behind them; or words are left over, and the first of these is named
pub data LineFault (l : List ℕ) (n : ℕ) (b : List ℕ) : Refusal → Type 0 where
  in_frame : {why : Refusal} → FaultAt (b ++ words_of l) n (length b) why → LineFault l n b why
  left_over : end_of (b ++ words_of l) (length b) < length (b ++ words_of l) → LineFault l n b (named 9 (end_of (b ++ words_of l) (length b)))
