-- Inside: what holds of the frames of an accepted batch, and of a test that decides which reads and updates are related.
use Rattle.std.specs.Prelude.{ℕ, ◌<◌, ◌≡◌, Bool, true, List, ◌↔◌}
use Rattle.tables.specs.Limits.{word_limit}
use Rattle.tables.specs.Words.{steps, label}
use Rattle.tables.specs.Patterns.{Pattern}
use Rattle.tables.specs.Documents.{bare, Sound}
use Rattle.conflict.specs.Conflict.{Update, delete, insert}
use Rattle.order.specs.Frames.{Frame, read, update}

-- a pattern that is accepted, its words of 16 bits
pub record Fit (p : List ℕ) : Type 0 where
  pub pattern : Pattern p
  pub labels : (i : ℕ) → label p i < word_limit

-- a delete has two steps or more
pub record FitDelete (p : List ℕ) : Type 0 where
  pub fit : Fit p
  pub two : 1 < steps p

-- an inserted tree is sound
pub record FitInsert (p x : List ℕ) : Type 0 where
  pub fit : Fit p
  pub tree : Sound (bare x)

-- an update that is accepted
abbrev pub FitUpdate : Update → Type 0
FitUpdate (delete p) = FitDelete p
FitUpdate (insert p x) = FitInsert p x

-- a frame of an accepted batch
abbrev pub FitFrame : Frame (List ℕ) Update → Type 0
FitFrame (read r) = Fit r
FitFrame (update u) = FitUpdate u

-- a test that decides a relation of reads and updates that are accepted
pub record DecidedBy (Related : List ℕ → Update → Type 0) (test : List ℕ → Update → Bool) : Type 0 where
  pub exactly : {r : List ℕ} {u : Update} → Fit r → FitUpdate u → (test r u ≡ true) ↔ Related r u
