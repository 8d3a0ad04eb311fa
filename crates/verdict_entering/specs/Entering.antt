-- Inside: from which states a read enters an inserted tree: what is checked, and the byte of each state.
use Rattle.std.specs.Prelude.{ℕ, ◌&&◌, cond, List, ltb}
use Rattle.tables.specs.Limits.{step_limit, tree_limit}
use Rattle.tables.specs.Checks.{◌then◌, pattern_check, tree_check, Checked}
use Rattle.selection.specs.Ways.{last}
use Rattle.conflict.specs.Crossing.{enters}

-- the read, then the tree
unfoldable pub entering_check : List ℕ → List ℕ → Checked
entering_check r x = pattern_check r step_limit 1 then tree_check x tree_limit 3

-- 1 where i is a state before r's last from which r enters x, else 0
unfoldable pub entered : List ℕ → List ℕ → ℕ → ℕ
entered r x i = cond (ltb i (last r) && enters r x i) 1 0
