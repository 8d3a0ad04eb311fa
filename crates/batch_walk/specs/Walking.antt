-- What a walk over the frames gives at a place of the batch, and where it stands next.
use Rattle.outcomes.specs.declared.frames.Extent.{Extent}
use Rattle.tables.specs.declared.refusal.Refusal.{Refusal}
use Rattle.std.specs.Prelude.{ℕ, ◌+◌, ◌-◌, cond, List, ltb, leb, length, Option, Some, None, Result, Ok, Err}
use Rattle.tables.specs.Limits.{batch_limit}
use Rattle.tables.specs.Refusals.{numbered}
use Rattle.tables.specs.Checks.{◌then◌, test, refuse, Checked, Fine}
use Rattle.batch_parts.specs.Parts.{part}
use Rattle.batch_frame.specs.Frames.{frame_check, frame_at}

-- a frame or its refusal, as it is given
abbrev pub answer_of : Result Extent Refusal → Result (Option Extent) Refusal
answer_of (Err r) = Err r
answer_of (Ok f) = Ok (Some f)

-- over 16,384 words 10 at every call; at the end none is left; else frame n at the place, or its refusal
unfoldable pub step_at : List ℕ → ℕ → ℕ → Result (Option Extent) Refusal
step_at b n at =
    cond (leb (length b) batch_limit)
    (cond (ltb at (length b)) (answer_of (frame_at b n at)) (Ok None))
    (Err (record { reason = numbered 10; table = 6; place = batch_limit }))

-- the order of its checks: 10 for words, then the frame's own; none at the end
unfoldable pub walk_check : List ℕ → ℕ → ℕ → Checked
walk_check b n at = test (leb (length b) batch_limit) (refuse 10 6 batch_limit) then cond (ltb at (length b)) (frame_check b n at) Fine

-- behind a frame its end, else the same place
abbrev pub place_of : Result (Option Extent) Refusal → ℕ → ℕ
place_of (Err r) at = at
place_of (Ok (Some f)) at = f.next
place_of (Ok None) at = at

-- behind a frame the next number, else the same
abbrev pub number_of : Result (Option Extent) Refusal → ℕ → ℕ
number_of (Err r) n = n
number_of (Ok (Some f)) n = n + 1
number_of (Ok None) n = n

unfoldable pub place_after : List ℕ → ℕ → ℕ → ℕ
place_after b n at = place_of (step_at b n at) at

unfoldable pub number_after : List ℕ → ℕ → ℕ → ℕ
number_after b n at = number_of (step_at b n at) n

-- the words from the place to the one behind the frame: none where no frame is given
unfoldable pub part_at : List ℕ → ℕ → ℕ → List ℕ
part_at b n at = part b at (place_after b n at - at)
