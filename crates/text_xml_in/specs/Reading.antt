-- What reading a tree's tags promises.
use Rattle.std.specs.Prelude.{ℕ, ◌≡◌, List, ◌++◌, leb, length, drop, Result, Ok, Err}
use Rattle.tables.specs.Limits.{tree_limit}
use Rattle.tables.specs.Words.{nodes}
use Rattle.tables.specs.Checks.{◌then◌, test, refuse, output_check, Checked, Fine}
use Rattle.tables.specs.declared.refusal.Refusal.{Refusal}
use Rattle.text_xml_form.specs.Scan.{right_tags, longest_tags}
use Rattle.text_xml_form.specs.Rows.{rows_of}

-- 14 for text that doesn't fit: table 7, the length of its longest start that some right text has
unfoldable pub tags_check : List ℕ → Checked
tags_check s = test (right_tags s) (refuse 14 7 (longest_tags s))

-- 14, 2 (table 3), 7
unfoldable pub read_tree_check : List ℕ → ℕ → Checked
read_tree_check s room =
    tags_check s
    then test (leb (nodes (rows_of s)) tree_limit) (refuse 2 3 0)
    then output_check (length (rows_of s)) room

-- what reading tags promises: the tree that they mean at the front, all behind it stays
abbrev pub ReadTree : List ℕ → List ℕ → List ℕ → Result ℕ Refusal → Type 0
ReadTree s before after (Err r) = (read_tree_check s (length before) ≡ Err r) × (after ≡ before)
ReadTree s before after (Ok n) =
    (read_tree_check s (length before) ≡ Fine)
    × (n ≡ length (rows_of s))
    × (after ≡ rows_of s ++ drop n before)
