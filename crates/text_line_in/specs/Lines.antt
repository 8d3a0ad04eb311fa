-- Lines: the check of a line, and what reading one promises.
use Rattle.std.specs.Prelude.{ℕ, ◌/◌, ◌%◌, ◌≡◌, ◌&&◌, List, ◌++◌, eqb, ltb, leb, length, get_or, drop, Result, Ok, Err}
use Rattle.tables.specs.Limits.{digit_limit}
use Rattle.tables.specs.Checks.{◌then◌, test, refuse, each, output_check, Checked, Fine}
use Rattle.tables.specs.declared.refusal.Refusal.{Refusal}
use Rattle.text_digits.specs.Digits.{digit_of, words_of}

-- 13: another character
unfoldable pub character_check : List ℕ → ℕ → ℕ → Checked
character_check s line i = test (leb (digit_of (get_or s i 0)) 15) (refuse 13 6 line)

-- 13: an empty line, a digit count not divisible by 4, or over 10,244 digits; then each character
unfoldable pub line_check : List ℕ → ℕ → Checked
line_check s line =
    test (ltb 0 (length s) && (eqb (length s % 4) 0 && leb (length s) digit_limit)) (refuse 13 6 line)
    then each (character_check s line) 0 (length s)

-- what reading a line promises: 13, then 7 when there is too little room for its words; the words at the front, all behind them stays
abbrev pub ReadAs : List ℕ → ℕ → List ℕ → List ℕ → Result ℕ Refusal → Type 0
ReadAs s line before after (Err r) =
    ((line_check s line then output_check (length s / 4) (length before)) ≡ Err r) × (after ≡ before)
ReadAs s line before after (Ok n) =
    ((line_check s line then output_check (length s / 4) (length before)) ≡ Fine)
    × (n ≡ length s / 4)
    × (after ≡ words_of s ++ drop n before)
