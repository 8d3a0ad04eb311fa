-- The loop ends: what is left of its range falls.
use Prim.Native.Nat.{◌≤◌, ◌-◌}
use Rattle.test_small.proofs.wider.deletes.Given as goal

abbrev pub invariant-loop-update : goal.invariant-loop-update
invariant-loop-update l = l.update ≤ 129
