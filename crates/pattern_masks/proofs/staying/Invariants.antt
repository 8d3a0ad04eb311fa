-- The word has the steps passed so far that stay.
use Prim.Native.Nat.{◌≤◌, ◌-◌}
use mathlib.Core.Bool.{false}
use Rattle.selection.specs.Ways.{stays}
use Rattle.pattern_set.specs.Sets.{Word}
use Rattle.pattern_masks.proofs.Passing.{passed}
use Rattle.pattern_masks.proofs.staying.Given as goal

abbrev pub invariant-loop-i : goal.invariant-loop-i
invariant-loop-i l = (l.i ≤ l.m) × Word (passed (stays l.p false) l.from l.i) 0 l.s
