-- The bytes below k are written, the others as they were.
use Prim.Native.Nat.{◌≤◌}
use mathlib.Core.Path.{◌≡◌}
use mathlib.Core.List.{◌++◌}
use lib.ListN.{drop}
use Rattle.selection.specs.Lists.{tab}
use Rattle.text_pattern_out.proofs.Putting.{byte_from}
use Rattle.text_pattern_out.proofs.put.put_name.Given as goal

abbrev pub invariant-loop-k : goal.invariant-loop-k
invariant-loop-k l = (l.k ≤ l.n) × (l.out ≡ tab (byte_from l.list l.from) l.k ++ drop l.k l.initial.out)
