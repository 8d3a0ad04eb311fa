-- The way of the last states, with everything below the update's last counted too.
use mathlib.Core.Path.{refl}
use native.Mathlib.Omega.{arith}
use Rattle.verdict_ways.proofs.Marked.{delete_bounds, last_inside, delete_written}
use Rattle.verdict_ways.proofs.shortest_delete.Goals as goal

pub overflow_sub-i : goal.overflow_sub-i
overflow_sub-i c = omega (arith, (delete_bounds _ _ _ c.requires).reads_some)

pub overflow_sub-j : goal.overflow_sub-j
overflow_sub-j c = omega (arith, (delete_bounds _ _ _ c.requires).updates_some)

pub only-states-requires : goal.only-states-requires
only-states-requires c = last_inside (delete_bounds _ _ _ c.requires) refl

pub returns : goal.returns
returns c = delete_written _ _ _ _ _ c.requires refl refl c.only-states.ensures c.meet.ensures
