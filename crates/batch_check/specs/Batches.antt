-- A batch as a list of frames, and the order of its checks.
use Rattle.tables.specs.declared.refusal.Refusal.{Refusal}
use Rattle.std.specs.Prelude.{ℕ, zero, suc, ◌+◌, ◌*◌, cond, List, [], ◌∷◌, eqb, ltb, leb, length, Result, Ok, Err}
use Rattle.tables.specs.Limits.{batch_limit}
use Rattle.tables.specs.Checks.{◌then◌, test, refuse, output_check, Checked, Fine}
use Rattle.conflict.specs.Conflict.{Update, delete, insert}
use Rattle.order.specs.Frames.{Frame, read, update}
use Rattle.batch_parts.specs.Parts.{part, count}
use Rattle.batch_frame.specs.Frames.{kind, tree_at, end_of, frame_check}

-- the steps of the frame at a place, and the nodes of an insert, as parts of the batch
abbrev pub pattern_of : List ℕ → ℕ → List ℕ
pattern_of b at = part b (at + 2) (2 * count b (at + 1))

abbrev pub tree_of : List ℕ → ℕ → List ℕ
tree_of b at = part b (tree_at at (count b (at + 1)) + 1) (2 * count b (tree_at at (count b (at + 1))))

-- what the frame at a place means: kind 1 is a read, 2 an insert, 3 a delete
unfoldable pub update_of : List ℕ → ℕ → Update
update_of b at = cond (eqb (kind b at) 2) (insert (pattern_of b at) (tree_of b at)) (delete (pattern_of b at))

unfoldable pub meaning : List ℕ → ℕ → Frame (List ℕ) Update
meaning b at = cond (eqb (kind b at) 1) (read (pattern_of b at)) (update (update_of b at))

-- the frames from a place on, each behind the end of the one before: at most so many
unfoldable pub frames_from : List ℕ → ℕ → ℕ → List (Frame (List ℕ) Update)
frames_from b at zero = []
frames_from b at (suc most) = cond (ltb at (length b)) (meaning b at ∷ frames_from b (end_of b at) most) []

-- the frames of a batch: there are no more of them than words
unfoldable pub batch_of : List ℕ → List (Frame (List ℕ) Update)
batch_of b = frames_from b 0 (length b)

-- each frame from a place on, the first of them frame n
unfoldable pub check_from : List ℕ → ℕ → ℕ → ℕ → Checked
check_from b n at zero = Fine
check_from b n at (suc most) = cond (ltb at (length b)) (frame_check b n at then check_from b (suc n) (end_of b at) most) Fine

-- 10 for words, whose place is the first too many; then each frame from the front
unfoldable pub batch_check : List ℕ → Checked
batch_check b = test (leb (length b) batch_limit) (refuse 10 6 batch_limit) then check_from b 0 0 (length b)

-- then 7 when the plan has fewer words than frames
unfoldable pub plan_check : List ℕ → ℕ → Checked
plan_check b words = batch_check b then output_check (length (batch_of b)) words

-- a check's refusal, or so many frames
abbrev pub counted_of : Checked → ℕ → Result ℕ Refusal
counted_of (Ok tt) n = Ok n
counted_of (Err r) n = Err r
