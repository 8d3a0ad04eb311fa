-- Inside: the shortest common ways, cell by cell: a row for each state of the read, in it a cell for each state of the update.
use Rattle.std.specs.Prelude.{ℕ, zero, suc, pred, ◌+◌, ◌*◌, ◌<◌, ◌≤◌, ◌≡◌, Bool, cond, List, length, get_or}
use Rattle.tables.specs.Words.{steps, label}
use Rattle.selection.specs.Ways.{stays}
use Rattle.conflict.specs.Meeting.{agree, sooner, least, onward, fewest_of}
use Rattle.check_verdict.specs.Admitted.{Bounded}

-- the steps of states i and j land together: on one label more than the states before them, of n labels; the first steps at the root
unfoldable pub together : Bool → ℕ → ℕ → ℕ → ℕ
together may zero zero n = cond may 1 0
together may zero (suc j) n = 0
together may (suc i) zero n = 0
together may (suc i) (suc j) n = onward may n

-- the step of state i lands while the other stays, which the first step never does
unfoldable pub alone : Bool → ℕ → ℕ → ℕ
alone may zero n = 0
alone may (suc i) n = onward may n

-- the number of labels where, at the nearest, both land; the read lands and the update stays; the update lands and the read stays
unfoldable pub both_land : List ℕ → Bool → List ℕ → Bool → ℕ → ℕ → ℕ
both_land r below p under i j = together (agree (label r i) (label p j)) i j (fewest_of r below p under (pred i) (pred j))

unfoldable pub read_lands : List ℕ → Bool → List ℕ → Bool → ℕ → ℕ → ℕ
read_lands r below p under i j = alone (stays p under j) i (fewest_of r below p under (pred i) j)

unfoldable pub update_lands : List ℕ → Bool → List ℕ → Bool → ℕ → ℕ → ℕ
update_lands r below p under i j = alone (stays r below i) j (fewest_of r below p under i (pred j))

-- the move that leads to the least of three numbers, of equal ones the first in this order: 0, 1, 2
unfoldable pub choose : ℕ → ℕ → ℕ → ℕ
choose m n k = cond (sooner m (least n k)) 0 (cond (sooner n k) 1 2)

-- the move at the nearest label of the way of i and j
unfoldable pub move_of : List ℕ → Bool → List ℕ → Bool → ℕ → ℕ → ℕ
move_of r below p under i j = choose (both_land r below p under i j) (read_lands r below p under i j) (update_lands r below p under i j)

-- where the move of cell j of row i stands, in rows of n cells
unfoldable pub cell_at : ℕ → ℕ → ℕ → ℕ
cell_at n i j = n * i + j

-- one row of numbers, worked in place: before j it holds the numbers of row i, from j on those of the row before, and in hand is the number
-- of that row that j - 1 had
pub record RowHeld (r : List ℕ) (below : Bool) (p : List ℕ) (under : Bool) (i j corner : ℕ) (row : List ℕ) : Type 0 where
  pub room : steps p ≤ length row
  pub own : (b : ℕ) → b < j → get_or row b 0 ≡ fewest_of r below p under i b
  pub earlier : (b : ℕ) → j ≤ b → b < steps p → 0 < i → get_or row b 0 ≡ fewest_of r below p under (pred i) b
  pub in_hand : 0 < i → 0 < j → corner ≡ fewest_of r below p under (pred i) (pred j)

-- the moves of the cells that stand before k are stored, as far as there is room for them
pub record MovesHeld (r : List ℕ) (below : Bool) (p : List ℕ) (under : Bool) (k : ℕ) (moves : List ℕ) : Type 0 where
  pub stored : (a b : ℕ) → b < steps p → cell_at (steps p) a b < k → cell_at (steps p) a b < length moves
      → get_or moves (cell_at (steps p) a b) 0 ≡ move_of r below p under a b

-- the number of the cell of i and j is next
pub record Next (r : List ℕ) (below : Bool) (p : List ℕ) (under : Bool) (i j corner : ℕ) (row : List ℕ) : Type 0 where
  pub bounded : Bounded r p
  pub reads : i < steps r
  pub updates : j < steps p
  pub held : RowHeld r below p under i j corner row
