-- The word has the steps passed so far that are wildcards.
use Prim.Native.Nat.{◌≤◌, ◌-◌}
use Rattle.pattern_masks.specs.Masks.{wild}
use Rattle.pattern_set.specs.Sets.{Word}
use Rattle.pattern_masks.proofs.Passing.{passed}
use Rattle.pattern_masks.proofs.wildcards.Given as goal

abbrev pub invariant-loop-i : goal.invariant-loop-i
invariant-loop-i l = (l.i ≤ l.m) × Word (passed (wild l.p) l.from l.i) 0 l.s
