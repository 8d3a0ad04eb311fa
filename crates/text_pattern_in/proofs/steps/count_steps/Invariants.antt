-- The steps that are left are those behind the first k.
use Prim.Native.Nat.{◌-◌}
use Rattle.text_pattern_in.proofs.Left.{At}
use Rattle.text_pattern_in.proofs.steps.count_steps.Given as goal

abbrev pub invariant-loop-i : goal.invariant-loop-i
invariant-loop-i l = At l.s l.i l.k

abbrev pub decreases-loop-i : goal.decreases-loop-i
decreases-loop-i l = l.n - l.i
