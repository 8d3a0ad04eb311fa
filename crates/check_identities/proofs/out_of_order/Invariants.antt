-- The count so far is 0 exactly where each identity so far is above the one before.
use Prim.Native.Nat.{◌-◌, ◌<◌, ◌≤◌}
use Rattle.check_document.proofs.Counts.{ZeroWhere}
use Rattle.check_identities.proofs.Rising.{Above}
use Rattle.check_identities.proofs.out_of_order.Given as goal

abbrev pub invariant-loop-v : goal.invariant-loop-v
invariant-loop-v l = ZeroWhere l.count (Above l.ids) l.v × (0 < l.v) × (l.v ≤ l.used) × (l.count ≤ l.v)
