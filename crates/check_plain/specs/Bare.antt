-- The order of the checks of a plain reading.
use Rattle.std.specs.Prelude.{ℕ, List}
use Rattle.tables.specs.Limits.{plain_steps, plain_nodes}
use Rattle.tables.specs.Words.{nodes}
use Rattle.tables.specs.Checks.{◌then◌, pattern_check, tree_check, output_check, Checked}

-- the tree (table 5) 1, 2, 4, 5, then the pattern 1, 2, 3, then 7 when the row is shorter than the nodes
unfoldable pub plain_check : List ℕ → List ℕ → ℕ → Checked
plain_check p t bytes =
    tree_check t plain_nodes 5 then pattern_check p plain_steps 1 then output_check (nodes t) bytes
