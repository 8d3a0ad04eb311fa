-- The walk keeps what holds before each frame, the search what is left of the earlier updates; its ways out meet at the slot.
use Prim.Native.Nat.{◌-◌}
use Rattle.batch_check.specs.Batches.{pattern_of}
use Rattle.batch_mode.specs.Modes.{relation_of}
use Rattle.batch_plan.proofs.Searching.{Searched}
use Rattle.batch_plan.proofs.Turns.{Walked}
use Rattle.batch_plan.proofs.plan.write.Given as goal

abbrev pub invariant-loop-j : goal.invariant-loop-j
invariant-loop-j l = Searched (relation_of l.mode) l.b l.k (pattern_of l.b l.here) l.updates l.j

abbrev pub decreases-loop-j : goal.decreases-loop-j
decreases-loop-j l = l.j

abbrev pub invariant-loop-k : goal.invariant-loop-k
invariant-loop-k l = Walked (relation_of l.mode) l.b l.n l.initial.out l.out l.places l.updates l.at l.k
