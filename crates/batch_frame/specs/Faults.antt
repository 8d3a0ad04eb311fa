-- The word that a refusal names, and what is wrong there. The place is that word's offset from the start of the batch.
use Rattle.std.specs.Prelude.{ℕ, ◌+◌, ◌*◌, ◌<◌, ◌≤◌, ◌≡◌, false, List, length, drop}
use Rattle.tables.specs.Limits.{step_limit, tree_limit, frame_limit}
use Rattle.tables.specs.Words.{tag}
use Rattle.tables.specs.Checks.{axis_right, parent_right}
use Rattle.tables.specs.Refusals.{number, numbered}
use Rattle.tables.specs.declared.refusal.Refusal.{Refusal}
use Rattle.batch_parts.specs.Parts.{count}
use Rattle.batch_frame.specs.Frames.{kind, tree_at, kind_right, end_of}

-- refusal number n of a batch, at a word
abbrev pub named : ℕ → ℕ → Refusal
named n offset = record { reason = numbered n; table = 6; place = offset }

-- where the step count of a frame stands, and where its steps begin; the same of the nodes of an insert
abbrev pub step_count : ℕ → ℕ
step_count at = at + 1

abbrev pub steps_at : ℕ → ℕ
steps_at at = at + 2

abbrev pub node_count : List ℕ → ℕ → ℕ
node_count b at = tree_at at (count b (step_count at))

abbrev pub nodes_at : List ℕ → ℕ → ℕ
nodes_at b at = node_count b at + 1

-- what is wrong in frame n, which begins at a word
pub data Fault (b : List ℕ) (n at : ℕ) : Refusal → Type 0 where
  -- 10: the start of the frame too many; 8: its kind
  too_many : frame_limit ≤ n → Fault b n at (named 10 at)
  kind_wrong : kind_right (kind b at) ≡ false → Fault b n at (named 8 at)
  -- 1, 2: the step count; 3: the axis of a step; 6: the step count of a delete
  no_steps : count b (step_count at) ≡ 0 → Fault b n at (named 1 (step_count at))
  many_steps : step_limit < count b (step_count at) → Fault b n at (named 2 (step_count at))
  axis_wrong : (i : ℕ) → i < count b (step_count at) → axis_right (drop (steps_at at) b) i ≡ false → Fault b n at (named 3 (steps_at at + 2 * i))
  one_step : kind b at ≡ 3 → count b (step_count at) ≡ 1 → Fault b n at (named 6 (step_count at))
  -- of an insert 1, 2: the node count; 4: the parent of a node; 5: its label
  no_nodes : kind b at ≡ 2 → count b (node_count b at) ≡ 0 → Fault b n at (named 1 (node_count b at))
  many_nodes : kind b at ≡ 2 → tree_limit < count b (node_count b at) → Fault b n at (named 2 (node_count b at))
  parent_wrong : kind b at ≡ 2 → (v : ℕ) → v < count b (node_count b at) → parent_right (drop (nodes_at b at) b) v ≡ false → Fault b n at (named 4 (nodes_at b at + 2 * v))
  label_zero : kind b at ≡ 2 → (v : ℕ) → v < count b (node_count b at) → tag (drop (nodes_at b at) b) v ≡ 0 → Fault b n at (named 5 (nodes_at b at + 2 * v + 1))
  -- 9: the first word that is missing; the frame ends behind it
  missing : length b < end_of b at → Fault b n at (named 9 (length b))

-- a refusal of frame n: what is wrong, at a word from the frame's start on, which is there; for 9 it is the one behind the last
pub record FaultAt (b : List ℕ) (n at : ℕ) (why : Refusal) : Type 0 where
  pub fault : Fault b n at why
  pub from : at ≤ why.place
  pub to : why.place ≤ length b
  pub there : (number why.reason ≡ 9 → ⊥) → why.place < length b
