-- The lines of an input, and its first line, which may name the mode.
use Rattle.std.specs.Prelude.{ℕ, ◌+◌, ◌-◌, ◌≡◌, List, [], ◌∷◌, ltb, leb, length, get_or, drop}
use Rattle.tables.specs.Checks.{◌then◌, test, refuse, Checked, Fine}
use Rattle.batch_parts.specs.Parts.{part}
use Rattle.batch_mode.specs.Modes.{mode_check}
use Rattle.text_digits.specs.Digits.{words_of}
use Rattle.text_parts.specs.Next.{next}
use Rattle.text_line_in.specs.Lines.{line_check}

-- where the line ends that begins at a place: at the next line feed, or at the end of the input
abbrev pub line_end : List ℕ → ℕ → ℕ
line_end s at = next 10 s at

-- that line
abbrev pub line_at : List ℕ → ℕ → List ℕ
line_at s at = part s at (line_end s at - at)

-- the words of the first line
abbrev pub first_words : List ℕ → List ℕ
first_words s = words_of (line_at s 0)

-- the first line is a mode line: well-formed, and of kind 4
pub record ModeLine (s : List ℕ) : Type 0 where
  pub formed : line_check (line_at s 0) 1 ≡ Fine
  pub kind : get_or (first_words s) 0 0 ≡ 4

-- a mode line has one word behind its kind: 9 at the first that is missing or left over; then 8 where it names no mode
unfoldable pub mode_line_check : List ℕ → Checked
mode_line_check ws = test (ltb 1 (length ws)) (refuse 9 6 1) then test (leb (length ws) 2) (refuse 9 6 2) then mode_check (get_or ws 1 0)

-- the lines behind the first
abbrev pub behind_first : List ℕ → List ℕ
behind_first s = drop (line_end s 0 + 1) s

-- the two mode lines in bytes, 00040001 and 00040002, each with its line feed
abbrev pub node_line : List ℕ
node_line = 48 ∷ 48 ∷ 48 ∷ 52 ∷ 48 ∷ 48 ∷ 48 ∷ 49 ∷ 10 ∷ []

abbrev pub deep_line : List ℕ
deep_line = 48 ∷ 48 ∷ 48 ∷ 52 ∷ 48 ∷ 48 ∷ 48 ∷ 50 ∷ 10 ∷ []
