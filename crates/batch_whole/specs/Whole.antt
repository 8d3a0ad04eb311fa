-- Inside: a frame that takes all words from its place on.
use Rattle.std.specs.Prelude.{ℕ, List, eqb, leb, length}
use Rattle.tables.specs.Limits.{batch_limit}
use Rattle.tables.specs.Checks.{◌then◌, test, refuse, Checked}
use Rattle.batch_frame.specs.Frames.{end_of, frame_check}

-- 10 for words, as a frame, words left over
abbrev pub whole_check : List ℕ → ℕ → ℕ → Checked
whole_check b n at =
    test (leb (length b) batch_limit) (refuse 10 6 batch_limit)
    then frame_check b n at
    then test (eqb (end_of b at) (length b)) (refuse 9 6 (end_of b at))
