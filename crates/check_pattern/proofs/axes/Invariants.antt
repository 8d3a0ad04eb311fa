-- The steps not yet looked at decide the answer.
use Prim.Native.Nat.{◌≤◌, ◌-◌}
use mathlib.Core.Path.{◌≡◌}
use Rattle.tables.specs.Checks.{each, axis_check}
use Rattle.check_pattern.proofs.axes.Given as goal

abbrev pub invariant-loop-i : goal.invariant-loop-i
invariant-loop-i l = (l.i ≤ l.n) × (each (axis_check l.p l.table) 0 l.n ≡ each (axis_check l.p l.table) l.i (l.n - l.i))

abbrev pub decreases-loop-i : goal.decreases-loop-i
decreases-loop-i l = l.n - l.i
