-- What an installation answers to what another accepts: 2 where its steps or nodes are too many, 13 where its line is too long, else it accepts it too.
use Rattle.std.specs.Prelude.{ℕ, ◌+◌, cond, List, ◌∷◌, ◌++◌, eqb, leb, length}
use Rattle.tables.specs.Checks.{◌then◌, test, refuse, Checked, Fine}
use Rattle.batch_parts.specs.Parts.{count}
use Rattle.batch_frame.specs.Frames.{kind, tree_at}
use Rattle.selection.specs.Lists.{tab}
use Rattle.text_digits.specs.Digits.{words_of}
use Rattle.older.specs.Installations.{Installation}

-- a frame: 2 at the count of its steps, or of its nodes
unfoldable pub to_frame : Installation → List ℕ → ℕ → Checked
to_frame i b at =
    test (leb (count b (at + 1)) i.most_steps) (refuse 2 6 (at + 1))
    then cond (eqb (kind b at) 2) (test (leb (count b (tree_at at (count b (at + 1)))) i.most_nodes) (refuse 2 6 (tree_at at (count b (at + 1))))) Fine

-- line l as frame n behind the words b: 13 first
unfoldable pub to_line : Installation → List ℕ → ℕ → List ℕ → Checked
to_line i l n b = test (leb (length l) i.most_digits) (refuse 13 6 (n + 1)) then to_frame i (b ++ words_of l) (length b)

-- an example: a read of 65 steps, a/a/../a
abbrev pub read_of_65 : List ℕ
read_of_65 = 1 ∷ 65 ∷ 0 ∷ tab (λ _. 1) 129
