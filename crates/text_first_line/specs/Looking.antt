-- Inside: what the functions that look at the first line promise each other.
use Rattle.tables.specs.declared.refusal.Refusal.{Refusal}
use Rattle.batch_mode.specs.declared.Mode.{Mode}
use Rattle.tables.specs.Checks.{◌then◌, test, refuse, Checked, Fine}
use Rattle.std.specs.Prelude.{ℕ, ◌+◌, ◌≤◌, ◌≡◌, List, ltb, leb, length, get_or, drop, Option, Some, None, Result, Ok, Err}
use Rattle.batch_mode.specs.Modes.{mode_of}
use Rattle.text_first_line.specs.FirstLine.{mode_line_check}

-- the length of a mode line, which is checked before its mode
unfoldable pub two_words : List ℕ → Checked
two_words ws = test (ltb 1 (length ws)) (refuse 9 6 1) then test (leb (length ws) 2) (refuse 9 6 2)

-- what the words of a first line say, where the lines behind it begin at a place
abbrev pub Says : List ℕ → ℕ → Result (Option (Mode × ℕ)) Refusal → Type 0
Says ws at (Ok None) = get_or ws 0 0 ≡ 4 → ⊥
Says ws at (Ok (Some (m, from))) = (get_or ws 0 0 ≡ 4) × (mode_line_check ws ≡ Fine) × (m ≡ mode_of (get_or ws 1 0)) × (from ≡ at)
Says ws at (Err r) = (get_or ws 0 0 ≡ 4) × (mode_line_check ws ≡ Err r)

-- the lines behind one that ends here, from a place within the input on
pub record Behind (s : List ℕ) (end at : ℕ) : Type 0 where
  pub within : at ≤ length s
  pub same : drop at s ≡ drop (end + 1) s
