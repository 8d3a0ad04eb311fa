-- A batch as a list of frames, each a read or an update: places in it, and the numbers of its updates.
use Rattle.std.specs.Prelude.{ℕ, zero, suc, List, [], ◌∷◌, ◌++◌, length}

-- a batch is a list of frames
pub data Frame (Read Update : Type 0) : Type 0 where
  read : Read → Frame Read Update
  update : Update → Frame Read Update

-- element k of a list, counted from 0
pub data At {A : Type 0} : List A → ℕ → A → Type 0 where
  here : {a : A} {l : List A} → At (a ∷ l) zero a
  there : {a c : A} {l : List A} {k : ℕ} → At l k a → At (c ∷ l) (suc k) a

-- a frame where it is an update, nothing where it is a read
abbrev pub updates : {Read Update : Type 0} → Frame Read Update → List Update
updates (read r) = []
updates (update u) = u ∷ []

-- frame k, where it is an update
unfoldable pub updates_at : {Read Update : Type 0} → List (Frame Read Update) → ℕ → List Update
updates_at [] k = []
updates_at (f ∷ b) zero = updates f
updates_at (f ∷ b) (suc k) = updates_at b k

-- the updates before frame k, nearest first
unfoldable pub earlier : {Read Update : Type 0} → List (Frame Read Update) → ℕ → List Update
earlier b zero = []
earlier b (suc k) = updates_at b k ++ earlier b k

-- an update's number among the updates, from 1
unfoldable pub number : {Read Update : Type 0} → List (Frame Read Update) → ℕ → ℕ
number b k = suc (length (earlier b k))
