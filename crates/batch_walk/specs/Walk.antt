-- A whole walk over the frames of a batch. Its calls are counted from 0; between them it moves as the walker does.
use Rattle.outcomes.specs.declared.frames.Extent.{Extent}
use Rattle.std.specs.Prelude.{ℕ, zero, suc, ◌<◌, ◌≤◌, ◌≡◌, List, [], ◌∷◌, ◌++◌, Option, Some, Result, Ok, Err}
use Rattle.conflict.specs.Conflict.{Update}
use Rattle.order.specs.Frames.{Frame, At}
use Rattle.tables.specs.declared.refusal.Refusal.{Refusal}
use Rattle.batch_frame.specs.Frames.{frame_of}
use Rattle.batch_frame.specs.Faults.{FaultAt}
use Rattle.batch_check.specs.Batches.{meaning, batch_of}
use Rattle.batch_walk.specs.Walking.{step_at, place_after, number_after, part_at}

-- where call k is made, and the number of the frame there: the first at the front, each later one where the one before moved to
unfoldable mutual
  pub call_place : List ℕ → ℕ → ℕ
  call_place b zero = 0
  call_place b (suc k) = place_after b (call_number b k) (call_place b k)

  pub call_number : List ℕ → ℕ → ℕ
  call_number b zero = 0
  call_number b (suc k) = number_after b (call_number b k) (call_place b k)

-- what it gives, and the part that it hands out
abbrev pub call_gives : List ℕ → ℕ → Result (Option Extent) Refusal
call_gives b k = step_at b (call_number b k) (call_place b k)

abbrev pub call_part : List ℕ → ℕ → List ℕ
call_part b k = part_at b (call_number b k) (call_place b k)

-- the parts of the first k calls, one behind another
unfoldable pub first_parts : List ℕ → ℕ → List ℕ
first_parts b zero = []
first_parts b (suc k) = first_parts b k ++ call_part b k

-- call k gives frame k of the batch as its part: it is made where that frame stands, and the part alone is a batch of that frame
pub record GivesFrame (b : List ℕ) (k : ℕ) : Type 0 where
  pub frame : Frame (List ℕ) Update
  pub is : At (batch_of b) k frame
  pub stands : meaning b (call_place b k) ≡ frame
  pub given : call_gives b k ≡ Ok (Some (frame_of b (call_place b k)))
  pub alone : batch_of (call_part b k) ≡ frame ∷ []

-- a batch whose walk is refused at a frame: each call before it gives its frame, every call from there on the refusal, whose fault is that frame's
pub record StopsAt (b : List ℕ) (why : Refusal) : Type 0 where
  pub frame : ℕ
  pub before : (k : ℕ) → k < frame → GivesFrame b k
  pub refused : (k : ℕ) → frame ≤ k → call_gives b k ≡ Err why
  pub fault : FaultAt b frame (call_place b frame) why
