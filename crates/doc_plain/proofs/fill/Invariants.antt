-- The bytes below v are written, the others as they were.
use Prim.Native.Nat.{◌≤◌, ◌-◌}
use mathlib.Core.Path.{◌≡◌}
use mathlib.Core.Bool.{cond}
use mathlib.Core.List.{◌++◌}
use lib.ListN.{drop}
use Rattle.selection.specs.Lists.{tab}
use Rattle.selection.specs.Ways.{last}
use Rattle.doc_plain.specs.Landing.{lands_on}
use Rattle.doc_plain.proofs.fill.Given as goal

abbrev pub invariant-loop-v : goal.invariant-loop-v
invariant-loop-v l = (l.v ≤ l.n) × (l.row ≡ tab (λ v. cond (lands_on l.p l.t (last l.p) v) 1 0) l.v ++ drop l.v l.initial.row)
