-- Where j is no state of the update no way, else the shortest, by as many moves as are wanted.
use Rattle.verdict_meeting.proofs.Admitted.{state_none, state_some}
use native.Mathlib.Omega.{arith}
use Rattle.verdict_meeting.proofs.Nearest.{lent_some, lent_all}
use Rattle.verdict_meeting.proofs.Places.{cells_fit}
use Rattle.verdict_meeting.proofs.shortest.Goals as goal

pub returns-then-n-j : goal.returns-then-n-j
returns-then-n-j c = search state_none

pub returns-then-out-m : goal.returns-then-out-m
returns-then-out-m c = search state_some

pub overflow_mul-n : goal.overflow_mul-n
overflow_mul-n c = search cells_fit

pub write_with-requires-then-n-m-le-SMALL_CELLS-clause-lent : goal.write_with-requires-then-n-m-le-SMALL_CELLS-clause-lent
write_with-requires-then-n-m-le-SMALL_CELLS-clause-lent c = lent_some _ _ _ {n = 4096} (omega (arith, c.if-n-m-le-SMALL_CELLS.true))

pub write_with-requires-2-clause-lent : goal.write_with-requires-2-clause-lent
write_with-requires-2-clause-lent c = lent_all _ _ _ c.requires

pub returns-then-n-m-le-SMALL_CELLS : goal.returns-then-n-m-le-SMALL_CELLS
returns-then-n-m-le-SMALL_CELLS c = search state_some

pub returns : goal.returns
returns c = search state_some
