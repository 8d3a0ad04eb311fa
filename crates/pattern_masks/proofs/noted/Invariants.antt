-- The slots have the steps passed so far.
use Prim.Native.Nat.{◌≤◌, ◌-◌}
use Rattle.pattern_masks.proofs.Slots.{Begun}
use Rattle.pattern_masks.proofs.noted.Given as goal

abbrev pub invariant-loop-i : goal.invariant-loop-i
invariant-loop-i l = (l.i ≤ l.m) × Begun l.high l.p l.from l.i l.initial.table l.table
