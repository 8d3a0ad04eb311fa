-- How many bytes are enough: of output for every text, of input to settle what is printed.
use Rattle.std.specs.Prelude.{ℕ, ◌+◌, ◌*◌}
use Rattle.tables.specs.Limits.{frame_limit, batch_limit, digit_limit}

-- the longest text: thirteen bytes a frame
abbrev pub printed_most : ℕ
printed_most = 13 * frame_limit

-- lines of frames that are taken have four digits a word and a line feed a frame; behind them one digit more than a line may have
abbrev pub frames_most : ℕ
frames_most = 4 * batch_limit + frame_limit + digit_limit + 1

-- above them a mode line may stand: eight digits and a line feed
abbrev pub input_most : ℕ
input_most = frames_most + 9
