-- What looking at the first line answers.
use Rattle.tables.specs.declared.refusal.Refusal.{Refusal}
use Rattle.batch_mode.specs.declared.Mode.{Mode}
use Rattle.tables.specs.Checks.{Fine}
use Rattle.std.specs.Prelude.{ℕ, ◌≤◌, ◌≡◌, List, length, get_or, drop, Option, Some, None, Result, Ok, Err}
use Rattle.batch_mode.specs.Modes.{mode_of}
use Rattle.text_first_line.specs.FirstLine.{first_words, ModeLine, mode_line_check, behind_first}

-- no mode line; or one that names its mode, and where the lines behind it begin; or one that is refused
abbrev pub FirstIs : List ℕ → Result (Option (Mode × ℕ)) Refusal → Type 0
FirstIs s (Ok None) = ModeLine s → ⊥
FirstIs s (Ok (Some (m, at))) =
    ModeLine s
    × (mode_line_check (first_words s) ≡ Fine)
    × (m ≡ mode_of (get_or (first_words s) 1 0))
    × (at ≤ length s)
    × (drop at s ≡ behind_first s)
FirstIs s (Err r) = ModeLine s × (mode_line_check (first_words s) ≡ Err r)
