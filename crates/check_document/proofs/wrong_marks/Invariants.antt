-- The count so far is 0 exactly where each mark so far is right.
use Prim.Native.Nat.{◌*◌, ◌-◌, ◌<◌, ◌≤◌}
use Rattle.check_document.proofs.Counts.{ZeroWhere}
use Rattle.check_document.proofs.Marks.{MarkFine}
use Rattle.check_document.proofs.wrong_marks.Given as goal

abbrev pub invariant-loop-node : goal.invariant-loop-node
invariant-loop-node l = ZeroWhere l.count (MarkFine l.t l.m) l.node × (0 < l.node) × (l.node ≤ l.used) × (l.count ≤ 2 * l.node)
