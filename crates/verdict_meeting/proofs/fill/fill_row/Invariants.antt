-- The cells of the row, one after the other.
use Prim.Native.Nat.{◌≤◌}
use mathlib.Core.Path.{◌≡◌}
use lib.ListN.{length}
use Rattle.tables.specs.Words.{steps}
use Rattle.verdict_meeting.specs.Cells.{cell_at, RowHeld, MovesHeld}
use Rattle.verdict_meeting.proofs.fill.fill_row.Given as goal

abbrev pub invariant-loop-j : goal.invariant-loop-j
invariant-loop-j l = (l.j ≤ l.n) × (l.n ≡ steps l.p) × (l.start ≡ cell_at (steps l.p) l.i 0) × (length l.row ≡ length l.initial.row) × (length l.moves ≡ length l.initial.moves) × RowHeld l.r l.below l.p l.under l.i l.j l.corner l.row × MovesHeld l.r l.below l.p l.under (cell_at (steps l.p) l.i l.j) l.moves
