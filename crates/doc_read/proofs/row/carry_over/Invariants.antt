-- The nodes before v have their carry.
use Prim.Native.Nat.{◌≤◌, ◌-◌}
use mathlib.Core.Path.{◌≡◌}
use mathlib.Core.List.{◌++◌}
use lib.ListN.{drop, get_or}
use mir.Val.{bool_byte}
use Rattle.selection.specs.Lists.{tab}
use Rattle.pattern_set.specs.Sets.{bit}
use Rattle.doc_read.proofs.row.carry_over.Given as goal

abbrev pub invariant-loop-v : goal.invariant-loop-v
invariant-loop-v l = (l.v ≤ l.used) × (l.carry ≡ tab (λ u. bool_byte (bit (get_or l.sets u 0) 63)) l.v ++ drop l.v l.initial.carry)
