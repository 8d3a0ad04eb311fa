-- Inside: the nearest of the marked states, and what the functions that count and write its way ask.
use Rattle.std.specs.Prelude.{ℕ, ◌<◌, ◌≤◌, ◌≡◌, Bool, List, length}
use Rattle.tables.specs.Words.{steps}
use Rattle.conflict.specs.Meeting.{meeting_of}
use Rattle.check_verdict.specs.Admitted.{Bounded}
use Rattle.check_verdict.specs.Order.{needed}
use Rattle.verdict_meeting.specs.Cells.{cell_at}
use Rattle.verdict_meeting.specs.Met.{nearest}
use Rattle.verdict_meeting.specs.Tracing.{left}

-- the best of the marked states below i, and how many labels its way has, if there is one
pub record Near (r : List ℕ) (below : Bool) (p : List ℕ) (under : Bool) (states : List ℕ) (j i state number : ℕ) : Type 0 where
  pub way : nearest r below p under states j i ≡ left number (meeting_of r below p under state j)
  pub count : length (nearest r below p under states j i) ≡ number
  pub inside : state < steps r

-- admitted patterns, and j is a state of p
pub record Asked (r p : List ℕ) (j : ℕ) : Type 0 where
  pub bounded : Bounded r p
  pub column : j < steps p

-- where the way is to be written, n moves are enough for every cell
pub record Lent (r p : List ℕ) (n : ℕ) (out : List ℕ) : Type 0 where
  pub all : needed r p ≤ length out → cell_at (steps p) (steps r) 0 ≤ n
