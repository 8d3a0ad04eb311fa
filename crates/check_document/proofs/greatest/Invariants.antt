-- The greatest mark so far is 0 exactly where each mark so far is.
use Prim.Native.Nat.{◌-◌, ◌≤◌}
use Rattle.check_document.proofs.Counts.{ZeroWhere}
use Rattle.check_document.proofs.Marks.{MarkNone}
use Rattle.check_document.proofs.greatest.Given as goal

abbrev pub invariant-loop-v : goal.invariant-loop-v
invariant-loop-v l = ZeroWhere l.most (MarkNone l.m) l.v × (l.v ≤ l.used)
