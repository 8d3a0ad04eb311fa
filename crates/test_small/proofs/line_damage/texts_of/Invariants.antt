-- The loop ends: what is left of its range falls.
use Prim.Native.Nat.{◌≤◌, ◌-◌}
use Rattle.test_small.proofs.line_damage.texts_of.Given as goal

abbrev pub invariant-loop-n : goal.invariant-loop-n
invariant-loop-n l = l.n ≤ l.frames

abbrev pub decreases-loop-n : goal.decreases-loop-n
decreases-loop-n l = l.frames - l.n
