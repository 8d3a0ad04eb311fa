-- Inside: the checks that follow the list's and the pattern's own, as the code makes them.
use Rattle.std.specs.Prelude.{ℕ, List, length}
use Rattle.tables.specs.Words.{steps}
use Rattle.tables.specs.Checks.{◌then◌, each, output_check, Checked}
use Rattle.text_names.specs.Names.{lines}
use Rattle.text_pattern.specs.Meaning.{text_of}
use Rattle.text_pattern_out.specs.Writing.{number_check}

-- 15
abbrev pub numbers_check : List ℕ → List ℕ → Checked
numbers_check l p = each (number_check (lines l) p) 0 (steps p)

-- 7
abbrev pub room_check : List ℕ → List ℕ → ℕ → Checked
room_check l p room = output_check (length (text_of (lines l) p)) room

-- 15, 7
abbrev pub rest_check : List ℕ → List ℕ → ℕ → Checked
rest_check l p room = numbers_check l p then room_check l p room
