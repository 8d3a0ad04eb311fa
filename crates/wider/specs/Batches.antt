-- Wider batches: frame by frame; and a batch in which one read was made wider and nothing else was touched.
use Rattle.std.specs.Prelude.{ℕ, ◌≡◌, List, ◌≢◌, length}
use Rattle.conflict.specs.Conflict.{Update}
use Rattle.order.specs.Frames.{Frame, read, update, At}
use Rattle.wider.specs.Wider.{WiderPattern, WiderUpdate}

-- a read is wider than a read, an update than an update
pub data WiderFrame : Frame (List ℕ) Update → Frame (List ℕ) Update → Type 0 where
  reads : {r s : List ℕ} → WiderPattern r s → WiderFrame (read r) (read s)
  updates : {u v : Update} → WiderUpdate u v → WiderFrame (update u) (update v)

-- as many frames, each of them wider or the same
pub record WiderFrames (b c : List (Frame (List ℕ) Update)) : Type 0 where
  pub frames : length c ≡ length b
  pub each : {k : ℕ} {f g : Frame (List ℕ) Update} → At b k f → At c k g → WiderFrame f g

-- frame k, the read r, was made the wider read s; every other frame stays
pub record WidenedRead (b c : List (Frame (List ℕ) Update)) (k : ℕ) (r s : List ℕ) : Type 0 where
  pub was : At b k (read r)
  pub is : At c k (read s)
  pub wider : WiderPattern r s
  pub frames : length c ≡ length b
  pub others : {j : ℕ} {f : Frame (List ℕ) Update} → j ≢ k → At b j f → At c j f
