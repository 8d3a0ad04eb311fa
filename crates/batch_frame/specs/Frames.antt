-- One frame of a batch: a kind (1 read, 2 insert, 3 delete), the step count, the steps and, for an insert, the node count and the nodes.
use Rattle.tables.specs.declared.refusal.Refusal.{Refusal}
use Rattle.std.specs.Prelude.{ℕ, ◌+◌, ◌*◌, Bool, ◌||◌, cond, not, List, eqb, ltb, get_or, Result, Ok, Err}
use Rattle.tables.specs.Limits.{frame_limit}
use Rattle.tables.specs.Checks.{◌then◌, test, refuse, Checked, Fine}
use Rattle.batch_parts.specs.Parts.{count, steps_check, nodes_check}
use Rattle.outcomes.specs.declared.frames.Extent.{Extent}

-- a frame's kind
abbrev pub kind : List ℕ → ℕ → ℕ
kind b at = get_or b at 0

-- where the node count of a frame stands, whose step count is n
abbrev pub tree_at : ℕ → ℕ → ℕ
tree_at at n = at + 2 + 2 * n

-- a kind is 1, 2 or 3
unfoldable pub kind_right : ℕ → Bool
kind_right k = eqb k 1 || (eqb k 2 || eqb k 3)

-- what stands behind the steps: a delete has more than one step, an insert has its nodes. The place of 6 is the step count
unfoldable pub rest_check : List ℕ → ℕ → ℕ → Checked
rest_check b k at =
    test (not (eqb k 3) || ltb 1 (count b (at + 1))) (refuse 6 6 (at + 1))
    then cond (eqb k 2) (nodes_check b (tree_at at (count b (at + 1)))) Fine

-- frame n at a place of the batch: 10, 8, step count absent 9, 1, 2, steps absent 9, 3, 6, and for an insert 9, 1, 2, 9, 4, 5.
-- The place of 10 is the start of the frame, that of 8 its kind, which is the same word
unfoldable pub frame_check : List ℕ → ℕ → ℕ → Checked
frame_check b n at =
    test (ltb n frame_limit) (refuse 10 6 at)
    then test (kind_right (kind b at)) (refuse 8 6 at)
    then steps_check b (at + 1)
    then rest_check b (kind b at) at

-- how many nodes the frame has, and where it ends
unfoldable pub nodes_of : List ℕ → ℕ → ℕ
nodes_of b at = cond (eqb (kind b at) 2) (count b (tree_at at (count b (at + 1)))) 0

unfoldable pub end_of : List ℕ → ℕ → ℕ
end_of b at =
    cond (eqb (kind b at) 2)
    (tree_at at (count b (at + 1)) + 1 + 2 * count b (tree_at at (count b (at + 1))))
    (tree_at at (count b (at + 1)))

-- the frame itself: its kind, where its steps begin, how many steps and nodes it has, where it ends
unfoldable pub frame_of : List ℕ → ℕ → Extent
frame_of b at =
    record { kind = kind b at; from = at + 2; steps = count b (at + 1); nodes = nodes_of b at; next = end_of b at }

-- what reading a frame answers: the frame, or its refusal
abbrev pub answered : Checked → Extent → Result Extent Refusal
answered (Ok tt) f = Ok f
answered (Err r) f = Err r

unfoldable pub frame_at : List ℕ → ℕ → ℕ → Result Extent Refusal
frame_at b n at = answered (frame_check b n at) (frame_of b at)
