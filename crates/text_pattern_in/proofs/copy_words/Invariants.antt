-- The words below i are written, the others as they were.
use Prim.Native.Nat.{◌≤◌}
use mathlib.Core.Path.{◌≡◌}
use mathlib.Core.List.{◌++◌}
use lib.ListN.{get_or, drop}
use Rattle.selection.specs.Lists.{tab}
use Rattle.text_pattern_in.proofs.copy_words.Given as goal

abbrev pub invariant-loop-i : goal.invariant-loop-i
invariant-loop-i l = (l.i ≤ l.n) × (l.words ≡ tab (λ j. get_or l.ws j 0) l.i ++ drop l.i l.initial.words)
