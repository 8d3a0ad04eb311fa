-- A move behind the end is no change.
use mathlib.Core.Path.{sym}
use native.Mathlib.Omega.{arith}
use lib.Seq.{set_out}
use Rattle.verdict_meeting.proofs.fill.store_move.Goals as goal

pub returns-then-moves-k : goal.returns-then-moves-k
returns-then-moves-k c = sym (set_out _ _ _ (omega arith))
