-- The count so far is 0 exactly where each node so far is right.
use Prim.Native.Nat.{◌*◌, ◌-◌, ◌<◌, ◌≤◌}
use Rattle.check_document.proofs.Counts.{ZeroWhere, NodeFine}
use Rattle.check_document.proofs.wrongs.Given as goal

abbrev pub invariant-loop-v : goal.invariant-loop-v
invariant-loop-v l = ZeroWhere l.count (NodeFine l.t) l.v × (0 < l.v) × (l.v ≤ l.used) × (l.count ≤ 2 * l.v)
