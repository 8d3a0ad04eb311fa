-- Inside: the shortest way on which a read in one of several states and an update in one state both run: what counting and writing it answers.
use Rattle.std.specs.Prelude.{ℕ, zero, suc, ◌*◌, ◌≡◌, Bool, cond, List, [], ◌++◌, eqb, leb, length, drop, get_or}
use Rattle.tables.specs.Checks.{where_fine, Checked}
use Rattle.conflict.specs.Meeting.{shorter, meeting_of}
use Rattle.conflict.specs.Crossing.{chain}
use Rattle.check_verdict.specs.Order.{needed}

-- the shortest way on which r is in state i and p in state j, if i is marked by a 1
unfoldable pub marked_way : List ℕ → Bool → List ℕ → Bool → List ℕ → ℕ → ℕ → List ℕ
marked_way r below p under states j i = cond (eqb (get_or states i 0) 1) (meeting_of r below p under i j) []

-- the shortest over the marked states below n; of equally short ones that of the least state
unfoldable pub nearest : List ℕ → Bool → List ℕ → Bool → List ℕ → ℕ → ℕ → List ℕ
nearest r below p under states j zero = []
nearest r below p under states j (suc i) = shorter (nearest r below p under states j i) (marked_way r below p under states j i)

-- the way of an admitted read and update where j is a state of the update; none where they are refused or it is not
unfoldable pub met : Checked → Bool → List ℕ → List ℕ
met check inside way = where_fine check (cond inside way []) []

-- a way is counted; in an output with room for the longest it is written as a chain at the front, and all behind it stays; another stays as it was
pub record Met (r p way before after : List ℕ) (n : ℕ) : Type 0 where
  pub count : n ≡ length way
  pub words : after ≡ cond (leb (needed r p) (length before)) (chain way ++ drop (2 * n) before) before
