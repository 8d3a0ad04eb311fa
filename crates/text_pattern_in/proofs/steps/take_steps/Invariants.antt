-- The steps that are taken stand in the table, and those that are left decide.
use Prim.Native.Nat.{◌-◌}
use Rattle.text_pattern_in.proofs.Taking.{Took}
use Rattle.text_pattern_in.proofs.steps.take_steps.Given as goal

abbrev pub invariant-loop-i : goal.invariant-loop-i
invariant-loop-i l = Took l.list l.s l.initial.words l.words l.i l.k

abbrev pub decreases-loop-i : goal.decreases-loop-i
decreases-loop-i l = l.n - l.i
