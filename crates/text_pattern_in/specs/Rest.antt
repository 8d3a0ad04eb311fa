-- Inside: the order of checks in two halves, and what the second half promises.
use Rattle.std.specs.Prelude.{ℕ, ◌*◌, ◌≡◌, List, ◌++◌, leb, length, drop, Result, Ok, Err}
use Rattle.tables.specs.Limits.{step_limit}
use Rattle.tables.specs.Checks.{◌then◌, test, refuse, output_check, Checked, Fine}
use Rattle.tables.specs.declared.refusal.Refusal.{Refusal}
use Rattle.text_names.specs.Names.{lines, list_check}
use Rattle.text_pattern.specs.Meaning.{steps_of, text_check, words_of}
use Rattle.text_pattern_in.specs.Reading.{listed_check}

-- 14 for the text, 2
unfoldable pub form_check : List ℕ → Checked
form_check s = text_check s then test (leb (length (steps_of s)) step_limit) (refuse 2 1 0)

-- 14 for the list first
unfoldable pub both_check : List ℕ → List ℕ → Checked
both_check l s = list_check l then form_check s

-- 15, 7
unfoldable pub rest_check : List ℕ → List ℕ → ℕ → Checked
rest_check l s room = listed_check (lines l) 0 (steps_of s) then output_check (2 * length (steps_of s)) room

-- what putting words at the front promises
abbrev pub PutAs : List ℕ → List ℕ → List ℕ → Result ℕ Refusal → Type 0
PutAs ws before after (Err r) = (output_check (length ws) (length before) ≡ Err r) × (after ≡ before)
PutAs ws before after (Ok n) = (output_check (length ws) (length before) ≡ Fine) × (n ≡ length ws) × (after ≡ ws ++ drop n before)

-- what reading the steps of a right text promises
abbrev pub StepsRead : List ℕ → List ℕ → List ℕ → List ℕ → Result ℕ Refusal → Type 0
StepsRead l s before after (Err r) = (rest_check l s (length before) ≡ Err r) × (after ≡ before)
StepsRead l s before after (Ok n) =
    (rest_check l s (length before) ≡ Fine) × (n ≡ 2 * length (steps_of s)) × (after ≡ words_of (lines l) (steps_of s) ++ drop n before)
