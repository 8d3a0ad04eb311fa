-- Inside: what the functions of the walk ask and promise.
use Rattle.tables.specs.Checks.{Fine}
use Rattle.std.specs.Prelude.{ℕ, ◌≤◌, ◌≡◌, List, length}
use Rattle.batch_frame.specs.Frames.{kind, frame_check}
use Rattle.batch_check.specs.Batches.{batch_of, batch_check}

-- at this place stands a frame that meets no refusal
pub record Standing (b : List ℕ) (at : ℕ) : Type 0 where
  pub frame : ℕ
  pub fine : frame_check b frame at ≡ Fine

-- an update stands there
pub record Updating (b : List ℕ) (at : ℕ) : Type 0 where
  pub standing : Standing b at
  pub other : kind b at ≡ 1 → ⊥

-- a batch that is accepted, its frames, and an output with room for their words
pub record Planning (b : List ℕ) (n words : ℕ) : Type 0 where
  pub accepted : batch_check b ≡ Fine
  pub frames : n ≡ length (batch_of b)
  pub room : n ≤ words
