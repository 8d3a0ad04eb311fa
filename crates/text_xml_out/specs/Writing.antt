-- What writing a tree as nested tags promises.
use Rattle.std.specs.Prelude.{ℕ, ◌≡◌, List, ◌++◌, length, drop, Result, Ok, Err}
use Rattle.tables.specs.Limits.{tree_limit}
use Rattle.tables.specs.Checks.{◌then◌, tree_check, output_check, Checked, Fine}
use Rattle.tables.specs.declared.refusal.Refusal.{Refusal}
use Rattle.text_xml.specs.Tags.{tree_text}

-- 1, 2, 4, 5 as for a tree (table 5), then 7 exactly when the whole text doesn't fit
unfoldable pub write_tree_check : List ℕ → ℕ → Checked
write_tree_check t room = tree_check t tree_limit 5 then output_check (length (tree_text t)) room

-- what writing a tree promises: its text at the front, all behind it stays
abbrev pub WriteTree : List ℕ → List ℕ → List ℕ → Result ℕ Refusal → Type 0
WriteTree t before after (Err r) = (write_tree_check t (length before) ≡ Err r) × (after ≡ before)
WriteTree t before after (Ok n) =
    (write_tree_check t (length before) ≡ Fine)
    × (n ≡ length (tree_text t))
    × (after ≡ tree_text t ++ drop n before)
