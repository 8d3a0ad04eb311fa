-- Four upper-case hexadecimal digits a word, most significant first.
use Rattle.std.specs.Prelude.{ℕ, ◌+◌, ◌-◌, ◌*◌, ◌/◌, ◌%◌, ◌^◌, ◌≤◌, ◌<◌, ◌&&◌, cond, List, leb, length, get_or}
use Rattle.selection.specs.Lists.{tab}

-- the value of a digit's byte, 0 to 9 and A to F; 16 for any other byte
unfoldable pub digit_of : ℕ → ℕ
digit_of c = cond (leb 48 c && leb c 57) (c - 48) (cond (leb 65 c && leb c 70) (c - 55) 16)

-- the byte of a digit
unfoldable pub byte_of : ℕ → ℕ
byte_of d = cond (leb d 9) (d + 48) (d + 55)

-- word k of a line
unfoldable pub word_at : List ℕ → ℕ → ℕ
word_at s k =
    digit_of (get_or s (4 * k) 0) * 4096
    + digit_of (get_or s (4 * k + 1) 0) * 256
    + digit_of (get_or s (4 * k + 2) 0) * 16
    + digit_of (get_or s (4 * k + 3) 0)

-- the words of a line
unfoldable pub words_of : List ℕ → List ℕ
words_of s = tab (word_at s) (length s / 4)

-- byte i of the line of these words
unfoldable pub byte_at : List ℕ → ℕ → ℕ
byte_at ws i = byte_of (get_or ws (i / 4) 0 / 16 ^ (3 - i % 4) % 16)

-- the line of these words
unfoldable pub line_of : List ℕ → List ℕ
line_of ws = tab (byte_at ws) (4 * length ws)

-- every character of s is a digit
pub record Digits (s : List ℕ) : Type 0 where
  pub all : (i : ℕ) → i < length s → digit_of (get_or s i 0) ≤ 15
