-- Inside: a run over a way that leads through an inserted copy into the tree above it: the state in which it leaves the copy.
use Rattle.std.specs.Prelude.{ℕ, zero, suc, pred, Bool, true, false, ◌&&◌, ◌||◌, cond, List, [], ◌∷◌, ◌++◌, eqb, ltb, length}
use Rattle.tables.specs.Words.{nodes}
use Rattle.selection.specs.Lists.{somewhere}
use Rattle.selection.specs.Ways.{up, takes, stays, last}
use Rattle.conflict.specs.Meeting.{meeting_of, fewest_of, shorter}

-- a run in state k over the labels of y, nearest first, is in state i when they are at their end: the labels above are run in state i
unfoldable pub over : (ℕ → ℕ → Bool) → (ℕ → Bool) → ℕ → List ℕ → ℕ → Bool
over take stay k [] i = eqb k i
over take stay zero (l ∷ y) i = stay 0 && over take stay 0 y i
over take stay (suc k) (l ∷ y) i = (take (suc k) l && over take stay k y i) || (stay (suc k) && over take stay (suc k) y i)

-- r, in state i above, goes on over the way y down to its last step
unfoldable pub goes_further : List ℕ → List ℕ → ℕ → Bool
goes_further r y i = over (takes r) (stays r false) (last r) y i

-- r, in state i at the update point, goes on to its last step at some node of the inserted tree x
unfoldable pub enters : List ℕ → List ℕ → ℕ → Bool
enters r x i = somewhere (λ k. goes_further r (up x k) i) (nodes x)

-- the shortest way to an update point of p at which r is in a state below n from which it enters x; of equally short ones that of the least state
unfoldable pub entering : List ℕ → List ℕ → List ℕ → ℕ → List ℕ
entering r p x zero = []
entering r p x (suc i) = shorter (entering r p x i) (cond (enters r x i) (meeting_of r false p false i (last p)) [])

-- the shortest way on which a read and an update show a conflict, [] for none: for a delete, one that the read selects and the update
-- hits; for an insert, one that the update selects and from which the read enters the inserted tree
unfoldable pub delete_way : List ℕ → List ℕ → List ℕ
delete_way r p = meeting_of r false p true (last r) (last p)

unfoldable pub insert_way : List ℕ → List ℕ → List ℕ → List ℕ
insert_way r p x = entering r p x (last r)

-- some way is one that the update selects and the read hits: it has an update point of p at or below a node that r selects
unfoldable pub touches : List ℕ → List ℕ → Bool
touches r p = ltb 0 (fewest_of r true p false (last r) (last p))

-- the deep verdict's tests: for a delete, some way is one that both hit; for an insert, there is a way that shows a conflict, or the update touches
unfoldable pub delete_deep : List ℕ → List ℕ → Bool
delete_deep r p = ltb 0 (fewest_of r true p true (last r) (last p))

unfoldable pub insert_deep : List ℕ → List ℕ → List ℕ → Bool
insert_deep r p x = ltb 0 (length (insert_way r p x)) || touches r p

-- the words of a chain with these labels, nearest first: the root is the last of them
unfoldable pub chain : List ℕ → List ℕ
chain [] = []
chain (l ∷ w) = chain w ++ (pred (length w) ∷ l ∷ [])
