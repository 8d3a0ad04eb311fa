-- The words below k are written, the others as they were.
use Prim.Native.Nat.{◌≤◌}
use mathlib.Core.Path.{◌≡◌}
use mathlib.Core.List.{◌++◌}
use lib.ListN.{drop}
use Rattle.selection.specs.Lists.{tab}
use Rattle.text_digits.specs.Digits.{word_at}
use Rattle.text_line_in.proofs.fill_words.Given as goal

abbrev pub invariant-loop-k : goal.invariant-loop-k
invariant-loop-k l = (l.k ≤ l.n) × (l.words ≡ tab (word_at l.s) l.k ++ drop l.k l.initial.words)
