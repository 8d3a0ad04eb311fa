-- The count of the nodes below v.
use Prim.Native.Nat.{◌≤◌, ◌-◌}
use mathlib.Core.Path.{◌≡◌}
use Rattle.selection.specs.Lists.{count}
use Rattle.doc_updates.specs.Asking.{chosen}
use Rattle.doc_room.proofs.counted.Given as goal

abbrev pub invariant-loop-v : goal.invariant-loop-v
invariant-loop-v l = (l.v ≤ l.used) × (l.n ≤ l.v) × (l.n ≡ count (chosen l.row) l.v)
