-- The way of the update's last state and the read's, or those from which the read enters the tree.
use mathlib.Core.Path.{refl}
use native.Mathlib.Omega.{arith}
use Rattle.check_verdict.proofs.Accepting.{insert_bounded}
use Rattle.verdict_ways.proofs.Marked.{last_inside, insert_counted}
use Rattle.verdict_ways.proofs.entered_or_hit.Goals as goal

pub overflow_sub-last : goal.overflow_sub-last
overflow_sub-last c = omega (arith, (insert_bounded _ _ _ c.requires).reads_some)

pub overflow_sub-point : goal.overflow_sub-point
overflow_sub-point c = omega (arith, (insert_bounded _ _ _ c.requires).updates_some)

pub bounds-states-last : goal.bounds-states-last
bounds-states-last c = last_inside (insert_bounded _ _ _ c.requires) refl

pub returns : goal.returns
returns c = insert_counted _ _ _ _ _ _ c.requires refl refl c.entering_states-states.ensures c.meet.ensures
