-- One byte after the other.
use Prim.Native.Nat.{◌≤◌}
use mathlib.Core.Path.{◌≡◌}
use lib.ListN.{length}
use Rattle.verdict_entering.specs.Climbing.{Handed}
use Rattle.verdict_entering.proofs.rows.hand_over.Given as goal

abbrev pub invariant-loop-v : goal.invariant-loop-v
invariant-loop-v l = (l.v ≤ l.n) × (length l.above ≡ length l.initial.above) × (length l.own ≡ length l.initial.own) × Handed l.initial.own l.v l.above l.own
