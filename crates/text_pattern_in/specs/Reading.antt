-- What reading a pattern's text promises.
use Rattle.std.specs.Prelude.{ℕ, suc, ◌*◌, ◌≡◌, List, [], ◌∷◌, ◌++◌, leb, length, drop, Result, Ok, Err}
use Rattle.tables.specs.Limits.{step_limit}
use Rattle.tables.specs.Checks.{◌then◌, test, refuse, output_check, Checked, Fine}
use Rattle.tables.specs.declared.refusal.Refusal.{Refusal}
use Rattle.text_names.specs.Names.{lines, list_check}
use Rattle.text_pattern.specs.Texts.{Step}
use Rattle.text_pattern.specs.Meaning.{steps_of, text_check, listed, words_of}

-- 15: a name is not listed; the place is the step
unfoldable pub listed_check : List (List ℕ) → ℕ → List Step → Checked
listed_check ws k [] = Fine
listed_check ws k (x ∷ xs) = test (listed ws x.word) (refuse 15 1 k) then listed_check ws (suc k) xs

-- 14 for the list, 14 for the text, 2, 15, 7
unfoldable pub read_text_check : List ℕ → List ℕ → ℕ → Checked
read_text_check l s room =
    list_check l
    then text_check s
    then test (leb (length (steps_of s)) step_limit) (refuse 2 1 0)
    then listed_check (lines l) 0 (steps_of s)
    then output_check (2 * length (steps_of s)) room

-- what reading a text promises: the pattern that it means at the front, all behind it stays
abbrev pub ReadText : List ℕ → List ℕ → List ℕ → List ℕ → Result ℕ Refusal → Type 0
ReadText l s before after (Err r) = (read_text_check l s (length before) ≡ Err r) × (after ≡ before)
ReadText l s before after (Ok n) =
    (read_text_check l s (length before) ≡ Fine)
    × (n ≡ 2 * length (steps_of s))
    × (after ≡ words_of (lines l) (steps_of s) ++ drop n before)
