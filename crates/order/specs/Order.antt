-- Orders of the frames of a batch: which frame stands where, and the batch's own order.
use Rattle.std.specs.Prelude.{ℕ, zero, suc, ◌<◌, List, [], ◌∷◌, length}
use Rattle.order.specs.Frames.{Frame, At}

-- frame k stands in the order o
pub record Stands (o : List ℕ) (k : ℕ) : Type 0 where
  pub place : ℕ
  pub there : At o place k

-- in the order o, i stands before j
pub record Before (o : List ℕ) (i j : ℕ) : Type 0 where
  pub before : {p q : ℕ} → At o p i → At o q j → p < q

-- n numbers from k on
unfoldable pub count_up : ℕ → ℕ → List ℕ
count_up k zero = []
count_up k (suc n) = k ∷ count_up (suc k) n

-- the batch's own order
unfoldable pub own : {Read Update : Type 0} → List (Frame Read Update) → List ℕ
own b = count_up 0 (length b)
