-- The plan of a batch, by a relation of reads and updates: Conflict or Deep, as the mode has it.
use Rattle.tables.specs.declared.refusal.Refusal.{Refusal}
use Rattle.std.specs.Prelude.{ℕ, ◌<◌, ◌≤◌, ◌≡◌, List, length, get_or, Result, Ok, Err}
use Rattle.tables.specs.Checks.{◌then◌, Checked, Fine}
use Rattle.conflict.specs.Conflict.{Update, Deep}
use Rattle.order.specs.Frames.{Frame, read, update, At, number}
use Rattle.batch_mode.specs.Modes.{relation_of, mode_check, mode_of}
use Rattle.batch_check.specs.Batches.{batch_of, plan_check}

-- an update before frame k that is related to the read r, and its number
pub record EarlierRelated (Related : List ℕ → Update → Type 0) (b : List (Frame (List ℕ) Update)) (k : ℕ) (r : List ℕ) (w : ℕ) : Type 0 where
  pub frame : ℕ
  pub what : Update
  pub at : At b frame (update what)
  pub earlier : frame < k
  pub related : Related r what
  pub numbered : number b frame ≡ w

-- the slot of a read: the greatest number of an earlier update that is related to it, or 0
pub record SlotIs (Related : List ℕ → Update → Type 0) (b : List (Frame (List ℕ) Update)) (k : ℕ) (r : List ℕ) (w : ℕ) : Type 0 where
  pub some : 0 < w → EarlierRelated Related b k r w
  pub greatest : {j : ℕ} {u : Update} → At b j (update u) → j < k → Related r u → number b j ≤ w

-- a word of the plan: for a read its slot, for an update its number among the updates
abbrev pub WordIs : (List ℕ → Update → Type 0) → List (Frame (List ℕ) Update) → ℕ → Frame (List ℕ) Update → ℕ → Type 0
WordIs Related b k (read r) w = SlotIs Related b k r w
WordIs Related b k (update u) w = w ≡ number b k

-- a plan is written: one word a frame, and what lies behind stays
pub record PlanWritten (Related : List ℕ → Update → Type 0) (b : List (Frame (List ℕ) Update)) (before after : List ℕ) : Type 0 where
  pub words : {k : ℕ} {f : Frame (List ℕ) Update} → At b k f → WordIs Related b k f (get_or after k 0)
  pub behind : (i : ℕ) → length b ≤ i → get_or after i 0 ≡ get_or before i 0
  pub kept : length after ≡ length before

-- what planning a batch by an order of checks answers and writes: its refusal, with nothing changed, or the number of its frames, and the plan
abbrev pub PlanBy : Checked → (List ℕ → Update → Type 0) → List ℕ → List ℕ → List ℕ → Result ℕ Refusal → Type 0
PlanBy order Related b before after (Err why) = (order ≡ Err why) × (after ≡ before)
PlanBy order Related b before after (Ok n) = (order ≡ Fine) × (n ≡ length (batch_of b)) × PlanWritten Related (batch_of b) before after

-- the plan by a relation
abbrev pub PlanOf : (List ℕ → Update → Type 0) → List ℕ → List ℕ → List ℕ → Result ℕ Refusal → Type 0
PlanOf Related b before = PlanBy (plan_check b (length before)) Related b before

-- a call that names no mode is deep
abbrev pub Plan : List ℕ → List ℕ → List ℕ → Result ℕ Refusal → Type 0
Plan = PlanOf Deep

-- a call that names its mode by a number: that is checked before the batch
abbrev pub plan_in_check : ℕ → List ℕ → ℕ → Checked
plan_in_check m b words = mode_check m then plan_check b words

abbrev pub PlanIn : ℕ → List ℕ → List ℕ → List ℕ → Result ℕ Refusal → Type 0
PlanIn m b before = PlanBy (plan_in_check m b (length before)) (relation_of (mode_of m)) b before
