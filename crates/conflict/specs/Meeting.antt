-- Inside: the shortest way on which a read in state i and an update in state j both run, nearest label first, and how many labels it has;
-- [] and 0 where there is none. The read's steps have the labels a and its states may stay where s says, the update's b and u.
use Rattle.std.specs.Prelude.{ℕ, zero, suc, ◌+◌, Bool, false, ◌||◌, cond, List, [], ◌∷◌, eqb, leb, length}
use Rattle.tables.specs.Words.{label}
use Rattle.selection.specs.Ways.{stays}

-- two steps can take one label: either is a wildcard, or their names are equal
unfoldable pub agree : ℕ → ℕ → Bool
agree x y = eqb x 0 || eqb y 0 || eqb x y

-- the label at which a step lands: its name, or 1 for a wildcard
unfoldable pub landing : ℕ → ℕ
landing x = cond (eqb x 0) 1 x

-- the label at which two steps that agree land: the name that is asked for, else 1
unfoldable pub shared : ℕ → ℕ → ℕ
shared x y = cond (eqb x 0) (landing y) x

-- of two numbers, 0 for none: the first is present, and the second is not or is no less
unfoldable pub sooner : ℕ → ℕ → Bool
sooner m n = cond (eqb m 0) false (eqb n 0 || leb m n)

-- the least that is present
unfoldable pub least : ℕ → ℕ → ℕ
least m n = cond (sooner m n) m n

-- one more, by a move that may be made
unfoldable pub onward : Bool → ℕ → ℕ
onward may n = cond may (cond (eqb n 0) 0 (n + 1)) 0

-- the same two for ways
unfoldable pub shorter : List ℕ → List ℕ → List ℕ
shorter v w = cond (sooner (length v) (length w)) v w

unfoldable pub longer : Bool → ℕ → List ℕ → List ℕ
longer may l [] = []
longer may l (m ∷ w) = cond may (l ∷ m ∷ w) []

-- Both land at the nearest label, or the read lands and the update stays, or the update lands and the read stays: the shortest,
-- and of equally short ones the first in this order. The first steps land together, at the root.
unfoldable pub meeting : (ℕ → ℕ) → (ℕ → ℕ) → (ℕ → Bool) → (ℕ → Bool) → ℕ → ℕ → List ℕ
meeting a b s u zero zero = cond (agree (a 0) (b 0)) (shared (a 0) (b 0) ∷ []) []
meeting a b s u zero (suc j) = longer (s 0) (landing (b (suc j))) (meeting a b s u zero j)
meeting a b s u (suc i) zero = longer (u 0) (landing (a (suc i))) (meeting a b s u i zero)
meeting a b s u (suc i) (suc j) =
    shorter
    (longer (agree (a (suc i)) (b (suc j))) (shared (a (suc i)) (b (suc j))) (meeting a b s u i j))
    (shorter
    (longer (u (suc j)) (landing (a (suc i))) (meeting a b s u i (suc j)))
    (longer (s (suc i)) (landing (b (suc j))) (meeting a b s u (suc i) j)))

-- its number of labels
unfoldable pub fewest : (ℕ → ℕ) → (ℕ → ℕ) → (ℕ → Bool) → (ℕ → Bool) → ℕ → ℕ → ℕ
fewest a b s u zero zero = cond (agree (a 0) (b 0)) 1 0
fewest a b s u zero (suc j) = onward (s 0) (fewest a b s u zero j)
fewest a b s u (suc i) zero = onward (u 0) (fewest a b s u i zero)
fewest a b s u (suc i) (suc j) =
    least
    (onward (agree (a (suc i)) (b (suc j))) (fewest a b s u i j))
    (least (onward (u (suc j)) (fewest a b s u i (suc j))) (onward (s (suc i)) (fewest a b s u (suc i) j)))

-- both for a read r and an update p; each flag says whether anything below the pattern's last step counts too
unfoldable pub meeting_of : List ℕ → Bool → List ℕ → Bool → ℕ → ℕ → List ℕ
meeting_of r below p under i j = meeting (label r) (label p) (stays r below) (stays p under) i j

unfoldable pub fewest_of : List ℕ → Bool → List ℕ → Bool → ℕ → ℕ → ℕ
fewest_of r below p under i j = fewest (label r) (label p) (stays r below) (stays p under) i j
