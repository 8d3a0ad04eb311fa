-- The loop ends: what is left of its range falls.
use Prim.Native.Nat.{◌≤◌, ◌-◌}
use lib.ListN.{length}
use Rattle.test_small.proofs.two_damages.lines.Given as goal

abbrev pub invariant-loop-word : goal.invariant-loop-word
invariant-loop-word l = l.word ≤ length l.b

abbrev pub decreases-loop-word : goal.decreases-loop-word
decreases-loop-word l = length l.b - l.word
