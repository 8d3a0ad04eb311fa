-- The two modes of a plan: node and deep.
use Rattle.std.specs.Prelude.{ℕ, ◌||◌, ◌≡◌, cond, List, eqb, Result, Ok, Err}
use Rattle.tables.specs.Checks.{refuse, test, Checked, Fine}
use Rattle.tables.specs.declared.refusal.Refusal.{Refusal}
use Rattle.conflict.specs.Conflict.{Update, Conflict, Deep}
use Rattle.batch_mode.specs.declared.Mode.{Mode}
use Rattle.batch_mode.specs.declared.Mode.TheVariants as mode

-- the relation from which a read's slot is taken
abbrev pub relation_of : Mode → List ℕ → Update → Type 0
relation_of mode.Node = Conflict
relation_of mode.Deep = Deep

-- a mode is named by 1 for node or 2 for deep; 8 for another, at the second word, where it stands in a mode line
unfoldable pub mode_check : ℕ → Checked
mode_check w = test (eqb w 1 || eqb w 2) (refuse 8 6 1)

-- the mode that a number names
unfoldable pub mode_of : ℕ → Mode
mode_of w = cond (eqb w 1) mode.Node mode.Deep

-- what a number is taken for: the mode that it names, or the refusal of one that names none
abbrev pub Named : ℕ → Result Mode Refusal → Type 0
Named w (Ok m) = (mode_check w ≡ Fine) × (m ≡ mode_of w)
Named w (Err r) = mode_check w ≡ Err r
