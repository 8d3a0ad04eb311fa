-- One word after the other.
use Prim.Native.Nat.{◌≤◌}
use mathlib.Core.Path.{◌≡◌}
use mathlib.Core.List.{◌++◌}
use lib.ListN.{drop, get_or}
use Rattle.selection.specs.Lists.{tab}
use Rattle.verdict_evidence.proofs.copy.lay.Given as goal

abbrev pub invariant-loop-i : goal.invariant-loop-i
invariant-loop-i l = (l.i ≤ l.n) × (l.rows ≡ tab (λ j. get_or l.t j 0) l.i ++ drop l.i l.initial.rows)
