-- Each frame of an accepted batch is accepted by its call too: only the document can be refused then, or an insert for room.
use Prim.Native.Nat.{ℕ, ◌<◌}
use mathlib.Core.Path.{◌≡◌}
use mathlib.Core.List.{List}
use mathlib.Core.Logic.{◌⊎◌, inl, inr}
use Rattle.tables.specs.Limits.{step_limit, tree_limit}
use Rattle.tables.specs.Words.{steps}
use Rattle.tables.specs.Checks.{pattern_check, tree_check, Fine}
use Rattle.tables.proofs.Elsewhere.{pattern_elsewhere, tree_elsewhere}
use Rattle.conflict.specs.Conflict.{Update, delete, insert}
use Rattle.order.specs.Model.{Fits}
use Rattle.order.specs.Frames.{Frame, read, update}
use Rattle.batch_frame.specs.Frames.{kind, frame_check}
use Rattle.batch_frame.proofs.Accepted.{frame_kind}
use Rattle.batch_check.specs.Batches.{pattern_of, tree_of, update_of, meaning, batch_of, batch_check}
use Rattle.batch_check.proofs.Accepted.{steps_fine, delete_two, tree_fine}
use Rattle.batch_check.proofs.Frames.{accepted_each}

-- what the call of a frame checks besides the document
abbrev pub Callable : Frame (List ℕ) Update → Type 0
Callable (read p) = pattern_check p step_limit 1 ≡ Fine
Callable (update (delete p)) = (pattern_check p step_limit 2 ≡ Fine) × (1 < steps p)
Callable (update (insert p x)) = (pattern_check p step_limit 2 ≡ Fine) × (tree_check x tree_limit 3 ≡ Fine)

module _ (b : List ℕ) (n at : ℕ) (e : frame_check b n at ≡ Fine) where
  pattern_at : (table : ℕ) → pattern_check (pattern_of b at) step_limit table ≡ Fine
  pattern_at table = pattern_elsewhere step_limit 6 table (pattern_of b at) (steps_fine b n at e)

  frame_callable : Callable (meaning b at)
  unfolding meaning update_of
  frame_callable = go (frame_kind b n at e)
    where
      go : (kind b at ≡ 1) ⊎ ((kind b at ≡ 2) ⊎ (kind b at ≡ 3)) → Callable (meaning b at)
      go (inl is) = rw is (pattern_at 1)
      go (inr (inl is)) = rw is (pattern_at 2, tree_elsewhere tree_limit 6 3 (tree_of b at) (tree_fine b n at e is))
      go (inr (inr is)) = rw is (pattern_at 2, delete_two b n at e is)

pub accepted_callable : (b : List ℕ) → batch_check b ≡ Fine → Fits Callable (batch_of b)
accepted_callable b e = accepted_each b (frame_callable b) e
