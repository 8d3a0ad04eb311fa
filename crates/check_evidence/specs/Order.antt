-- The order for a proposed tree: that of a verdict, with the proposed tree, 1, 2, then node by node 4 before 5, after the inserted one and before 6. There
-- is no output, and so no 7.
use Rattle.std.specs.Prelude.{ℕ, List, ltb}
use Rattle.tables.specs.Limits.{tree_limit}
use Rattle.tables.specs.Words.{steps}
use Rattle.tables.specs.Checks.{refuse, ◌then◌, test, tree_check, Checked}
use Rattle.conflict.specs.Conflict.{Update, delete, insert}
use Rattle.check_verdict.specs.Order.{patterns_check}

-- 6: a delete has one step
unfoldable pub delete_evidence_check : List ℕ → List ℕ → List ℕ → Checked
delete_evidence_check r p t = patterns_check r p then tree_check t tree_limit 5 then test (ltb 1 (steps p)) (refuse 6 2 0)

unfoldable pub insert_evidence_check : List ℕ → List ℕ → List ℕ → List ℕ → Checked
insert_evidence_check r p x t = patterns_check r p then tree_check x tree_limit 3 then tree_check t tree_limit 5

-- both by the update
abbrev pub evidence_check : List ℕ → Update → List ℕ → Checked
evidence_check r (delete p) t = delete_evidence_check r p t
evidence_check r (insert p x) t = insert_evidence_check r p x t
