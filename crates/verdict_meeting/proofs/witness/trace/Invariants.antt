-- What is left of the way is written node by node, from the nearest label up.
use Prim.Native.Nat.{◌*◌}
use mathlib.Core.List.{◌++◌}
use lib.ListN.{length, drop}
use Rattle.conflict.specs.Meeting.{meeting_of}
use Rattle.conflict.specs.Crossing.{chain}
use Rattle.verdict_meeting.specs.Tracing.{left}
use Rattle.verdict_meeting.proofs.Tracing.{Rest}
use Rattle.verdict_meeting.proofs.witness.trace.Given as goal

abbrev pub invariant-loop-rest : goal.invariant-loop-rest
invariant-loop-rest l = Rest l.r l.below l.p l.under l.rest l.a l.b l.moves l.out (chain (left l.n (meeting_of l.r l.below l.p l.under l.i l.j)) ++ drop (2 * l.n) l.initial.out) (length l.initial.out)
