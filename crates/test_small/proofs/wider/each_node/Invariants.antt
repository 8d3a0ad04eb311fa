-- The loop ends: what is left of its range falls.
use Prim.Native.Nat.{◌≤◌, ◌-◌}
use Rattle.test_small.proofs.wider.each_node.Given as goal

abbrev pub invariant-loop-choice : goal.invariant-loop-choice
invariant-loop-choice l = l.choice ≤ 6
