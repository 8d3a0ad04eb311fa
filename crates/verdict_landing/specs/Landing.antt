-- Inside: moves of a read and an update, and the labels at which they land.
use Rattle.std.specs.Prelude.{ℕ, cond, List, eqb}
use Rattle.tables.specs.Words.{label}
use Rattle.conflict.specs.Meeting.{landing, shared}

-- of three things that of a move: 0, both land; 1, the read lands and the update stays; 2, the update lands and the read stays
unfoldable pub pick : {A : Type 0} → ℕ → A → A → A → A
pick m a b c = cond (eqb m 0) a (cond (eqb m 1) b c)

-- the label at which a move lands, the read in state i and the update in state j
unfoldable pub label_of : List ℕ → List ℕ → ℕ → ℕ → ℕ → ℕ
label_of r p i j m = pick m (shared (label r i) (label p j)) (landing (label r i)) (landing (label p j))
