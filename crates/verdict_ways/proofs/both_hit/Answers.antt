-- The way of the last states, with everything below both counted too.
use mathlib.Core.Path.{refl}
use native.Mathlib.Omega.{arith}
use Rattle.check_verdict.proofs.Accepting.{delete_bounded}
use Rattle.verdict_ways.proofs.Marked.{last_inside, delete_counted}
use Rattle.verdict_ways.proofs.both_hit.Goals as goal

pub overflow_sub-i : goal.overflow_sub-i
overflow_sub-i c = omega (arith, (delete_bounded _ _ c.requires).reads_some)

pub overflow_sub-end : goal.overflow_sub-end
overflow_sub-end c = omega (arith, (delete_bounded _ _ c.requires).updates_some)

pub only-states-requires : goal.only-states-requires
only-states-requires c = last_inside (delete_bounded _ _ c.requires) refl

pub returns : goal.returns
returns c = delete_counted _ _ _ _ _ c.requires refl refl c.only-states.ensures c.meet.ensures
