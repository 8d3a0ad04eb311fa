-- The order for a verdict: read 1, 2, 3; update 1, 2, 3; inserted tree 1, 2, then node by node 4 before 5; then 6; then 7.
use Rattle.std.specs.Prelude.{ℕ, ◌+◌, ◌*◌, ◌-◌, List, ltb, leb}
use Rattle.tables.specs.Limits.{step_limit, tree_limit}
use Rattle.tables.specs.Words.{steps}
use Rattle.tables.specs.Checks.{refuse, ◌then◌, test, pattern_check, tree_check, Checked}
use Rattle.conflict.specs.Conflict.{Update, delete, insert}

-- the words that the output must have: two a node of the longest witness
abbrev pub needed : List ℕ → List ℕ → ℕ
needed r p = 2 * (steps r + steps p - 1)

-- 7: the output has fewer words
unfoldable pub room_check : List ℕ → List ℕ → ℕ → Checked
room_check r p words = test (leb (needed r p) words) (refuse 7 4 0)

-- the read, then the update
unfoldable pub patterns_check : List ℕ → List ℕ → Checked
patterns_check r p = pattern_check r step_limit 1 then pattern_check p step_limit 2

-- 6: a delete has one step
unfoldable pub deep_delete_check : List ℕ → List ℕ → Checked
deep_delete_check r p = patterns_check r p then test (ltb 1 (steps p)) (refuse 6 2 0)

unfoldable pub deep_insert_check : List ℕ → List ℕ → List ℕ → Checked
deep_insert_check r p x = patterns_check r p then tree_check x tree_limit 3

-- the deep verdict has no output
unfoldable pub delete_verdict_check : List ℕ → List ℕ → ℕ → Checked
delete_verdict_check r p words = deep_delete_check r p then room_check r p words

unfoldable pub insert_verdict_check : List ℕ → List ℕ → List ℕ → ℕ → Checked
insert_verdict_check r p x words = deep_insert_check r p x then room_check r p words

-- both by the update
abbrev pub deep_check : List ℕ → Update → Checked
deep_check r (delete p) = deep_delete_check r p
deep_check r (insert p x) = deep_insert_check r p x

abbrev pub verdict_check : List ℕ → Update → ℕ → Checked
verdict_check r (delete p) words = delete_verdict_check r p words
verdict_check r (insert p x) words = insert_verdict_check r p x words
