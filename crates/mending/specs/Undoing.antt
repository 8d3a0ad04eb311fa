-- A list of changes turned back, and made again.
use Rattle.std.specs.Prelude.{ℕ, zero, suc, ◌+◌, ◌*◌, List, get_or, set}

-- the marks after the first n entries of the list, three words each, are turned back: at each node the old mark
unfoldable pub undone : List ℕ → ℕ → List ℕ → List ℕ
undone list zero marks = marks
undone list (suc k) marks = set (undone list k marks) (get_or list (3 * k) 0) (get_or list (3 * k + 1) 0)

-- and after they are made: at each node the new mark
unfoldable pub redone : List ℕ → ℕ → List ℕ → List ℕ
redone list zero marks = marks
redone list (suc k) marks = set (redone list k marks) (get_or list (3 * k) 0) (get_or list (3 * k + 2) 0)
