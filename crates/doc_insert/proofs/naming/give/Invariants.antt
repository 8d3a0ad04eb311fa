-- The identities below k are given, the others as they were.
use Prim.Native.Nat.{◌+◌, ◌-◌, ◌≤◌}
use mathlib.Core.Path.{◌≡◌}
use mathlib.Core.List.{◌++◌}
use lib.ListN.{drop}
use Rattle.selection.specs.Lists.{tab}
use Rattle.doc_insert.proofs.naming.give.Given as goal

abbrev pub invariant-loop-k : goal.invariant-loop-k
invariant-loop-k l = (l.k ≤ l.n) × (l.free ≡ tab (λ i. l.next + i) l.k ++ drop l.k l.initial.free)
