-- The way of the update's last state and those from which the read enters the tree.
use mathlib.Core.Path.{refl}
use native.Mathlib.Omega.{arith}
use Rattle.verdict_ways.proofs.Marked.{insert_bounds, insert_written}
use Rattle.verdict_ways.proofs.shortest_insert.Goals as goal

pub overflow_sub-j : goal.overflow_sub-j
overflow_sub-j c = omega (arith, (insert_bounds _ _ _ _ c.requires).updates_some)

pub returns : goal.returns
returns c = insert_written _ _ _ _ _ _ c.requires refl c.entering_states-states.ensures c.meet.ensures
