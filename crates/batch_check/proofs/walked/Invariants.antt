-- What is left of the batch decides the answer; there are no more frames than words passed.
use Prim.Native.Nat.{◌≤◌, ◌-◌}
use mathlib.Core.Path.{◌≡◌}
use lib.ListN.{length}
use Rattle.batch_check.proofs.Left.{counted_from}
use Rattle.batch_check.proofs.walked.Given as goal

abbrev pub invariant-loop-at : goal.invariant-loop-at
invariant-loop-at l = (l.n ≤ l.at) × (counted_from l.b 0 0 ≡ counted_from l.b l.n l.at)

abbrev pub decreases-loop-at : goal.decreases-loop-at
decreases-loop-at l = length l.b - l.at
