-- Inside: the way of a cell, followed back by its moves from its nearest label to the root.
use Rattle.std.specs.Prelude.{ℕ, zero, suc, pred, ◌*◌, ◌<◌, ◌≤◌, ◌≡◌, Bool, List, [], length}
use Rattle.tables.specs.Words.{steps}
use Rattle.conflict.specs.Meeting.{meeting_of}
use Rattle.verdict_landing.specs.Landing.{pick}
use Rattle.check_verdict.specs.Admitted.{Bounded}
use Rattle.verdict_meeting.specs.Cells.{cell_at, MovesHeld}

-- the states above a move
unfoldable pub read_after : ℕ → ℕ → ℕ
read_after i m = pick m (pred i) (pred i) i

unfoldable pub update_after : ℕ → ℕ → ℕ
update_after j m = pick m (pred j) j (pred j)

-- a way of n labels, of which none is left at 0
unfoldable pub left : ℕ → List ℕ → List ℕ
left zero w = []
left (suc n) w = w

-- the move of every cell is stored
pub record Moved (r : List ℕ) (below : Bool) (p : List ℕ) (under : Bool) (moves : List ℕ) : Type 0 where
  pub bounded : Bounded r p
  pub all : cell_at (steps p) (steps r) 0 ≤ length moves
  pub held : MovesHeld r below p under (cell_at (steps p) (steps r) 0) moves

-- the way of i and j has n labels, or none is to be written; every move is stored, and the output has room
pub record Traceable (r : List ℕ) (below : Bool) (p : List ℕ) (under : Bool) (n i j : ℕ) (moves out : List ℕ) : Type 0 where
  pub moved : Moved r below p under moves
  pub reads : i < steps r
  pub updates : j < steps p
  pub long : length (left n (meeting_of r below p under i j)) ≡ n
  pub room : 2 * n ≤ length out
