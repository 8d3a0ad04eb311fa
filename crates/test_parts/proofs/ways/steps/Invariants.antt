-- The loop ends: the steps that are left get fewer.
use mathlib.Core.Path.{◌≡◌}
use lib.ListN.{length}
use Rattle.test_parts.proofs.ways.steps.Given as goal

abbrev pub invariant-loop-i : goal.invariant-loop-i
invariant-loop-i l = length l.p ≡ length l.initial.p

abbrev pub decreases-loop-i : goal.decreases-loop-i
decreases-loop-i l = l.i
