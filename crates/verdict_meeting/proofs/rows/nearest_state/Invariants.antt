-- The rows, one after the other, and the best of the states looked at.
use Prim.Native.Nat.{◌≤◌}
use mathlib.Core.Path.{◌≡◌}
use lib.ListN.{length}
use Rattle.tables.specs.Words.{steps}
use Rattle.verdict_meeting.specs.Cells.{cell_at, RowHeld, MovesHeld}
use Rattle.verdict_meeting.specs.Nearing.{Near}
use Rattle.verdict_meeting.proofs.rows.nearest_state.Given as goal

abbrev pub invariant-loop-i : goal.invariant-loop-i
invariant-loop-i l = (l.i ≤ l.m) × (l.m ≡ steps l.r) × (length l.row ≡ length l.initial.row) × (length l.moves ≡ length l.initial.moves) × RowHeld l.r l.below l.p l.under l.i 0 0 l.row × MovesHeld l.r l.below l.p l.under (cell_at (steps l.p) l.i 0) l.moves × Near l.r l.below l.p l.under l.states l.j l.i l.best.state l.best.number
