-- What writing a pattern as text promises.
use Rattle.std.specs.Prelude.{ℕ, ◌≡◌, List, ◌++◌, leb, length, drop, Result, Ok, Err}
use Rattle.tables.specs.Limits.{step_limit}
use Rattle.tables.specs.Words.{steps, label}
use Rattle.tables.specs.Checks.{◌then◌, test, refuse, each, pattern_check, output_check, Checked, Fine}
use Rattle.tables.specs.declared.refusal.Refusal.{Refusal}
use Rattle.text_names.specs.Names.{lines, list_check}
use Rattle.text_pattern.specs.Meaning.{text_of}

-- 15: a number without a name; the place is the step
unfoldable pub number_check : List (List ℕ) → List ℕ → ℕ → Checked
number_check ws p i = test (leb (label p i) (length ws)) (refuse 15 1 i)

-- 14 for the list, 1, 2, 3, 15, 7
unfoldable pub write_text_check : List ℕ → List ℕ → ℕ → Checked
write_text_check l p room =
    list_check l
    then pattern_check p step_limit 1
    then each (number_check (lines l) p) 0 (steps p)
    then output_check (length (text_of (lines l) p)) room

-- what writing a pattern promises: its text at the front, all behind it stays
abbrev pub WriteText : List ℕ → List ℕ → List ℕ → List ℕ → Result ℕ Refusal → Type 0
WriteText l p before after (Err r) = (write_text_check l p (length before) ≡ Err r) × (after ≡ before)
WriteText l p before after (Ok n) =
    (write_text_check l p (length before) ≡ Fine)
    × (n ≡ length (text_of (lines l) p))
    × (after ≡ text_of (lines l) p ++ drop n before)
