-- Inside: the checks behind that of the text, and what the rows of a right text promise.
use Rattle.std.specs.Prelude.{ℕ, ◌*◌, ◌≡◌, List, ◌++◌, leb, length, drop, Result, Ok, Err}
use Rattle.tables.specs.Limits.{tree_limit}
use Rattle.tables.specs.Words.{nodes}
use Rattle.tables.specs.Checks.{◌then◌, test, refuse, output_check, Checked, Fine}
use Rattle.tables.specs.declared.refusal.Refusal.{Refusal}
use Rattle.text_xml_form.specs.Rows.{rows_of}

-- 2, 7, of a text's rows
unfoldable pub rest_check : List ℕ → ℕ → Checked
rest_check s room = test (leb (nodes (rows_of s)) tree_limit) (refuse 2 3 0) then output_check (length (rows_of s)) room

-- 2, 7, of so many nodes
unfoldable pub nodes_check : ℕ → ℕ → Checked
nodes_check k room = test (leb k tree_limit) (refuse 2 3 0) then output_check (2 * k) room

-- what reading the rows of a right text promises
abbrev pub RowsRead : List ℕ → List ℕ → List ℕ → Result ℕ Refusal → Type 0
RowsRead s before after (Err r) = (rest_check s (length before) ≡ Err r) × (after ≡ before)
RowsRead s before after (Ok n) = (rest_check s (length before) ≡ Fine) × (n ≡ length (rows_of s)) × (after ≡ rows_of s ++ drop n before)
