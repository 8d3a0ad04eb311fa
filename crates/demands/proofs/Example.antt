-- An order in which a read has moved: the example's read goes before its delete, with which it does not conflict, deeply or not; and a read whose two slots differ.
use Rattle.std.specs.Prelude.{Ok}
use Prim.Native.Nat.{ℕ, zero, suc, ◌≤◌}
use mathlib.Core.Path.{◌≡◌, refl}
use mathlib.Core.Bool.{Bool, true, false}
use mathlib.Core.List.{List, [], ◌∷◌}
use native.Mathlib.Omega.{arith}
use lib.ListN.{get_or}
use Rattle.identities.specs.Checks.{identity_right, identity_check, identities_check, whole_check}
use Rattle.tables.specs.Checks.{pattern_check, size_check, each, axis_check, axis_right, node_check, parent_right, used_right, used_check, shape_check, mark_right, mark_check, document_check, output_check, Fine}
use Rattle.tables.specs.Words.{Bits16}
use Rattle.tables.proofs.Accepted.{then_first}
use Rattle.marked.proofs.Marked.{small, words_of}
use Rattle.conflict.specs.Conflict.{Update, delete, Conflict, Deep}
use Rattle.conflict.specs.Meeting.{agree, landing, shared, sooner, least, onward, shorter, longer, meeting, fewest, meeting_of, fewest_of}
use Rattle.conflict.specs.Crossing.{delete_way, delete_deep}
use Rattle.order.specs.Model.{nearest, slot}
use Rattle.order.specs.Frames.{Frame, read, update, At, here, there, updates_at, earlier, number}
use Rattle.order.proofs.Own.{read_first}
use Rattle.order.proofs.Places.{at_below}
use Rattle.order.specs.Fitting.{DecidedBy}
use Rattle.order.proofs.Deciding.{conflicting, conflicting_decides, deeply, deeply_decides}
use Rattle.batch_parts.specs.Parts.{count_check, steps_check}
use Rattle.batch_frame.specs.Frames.{kind_right, rest_check, frame_check, end_of}
use Rattle.batch_check.specs.Batches.{update_of, meaning, frames_from, batch_of, check_from, batch_check, plan_check}
use Rattle.batch_plan.specs.Batch.{SlotIs, WordIs, PlanOf}
use Rattle.batch_plan.proofs.Laws.{accepted_slot}
use Rattle.demands.specs.Demands.{Keeps, Start, example, b_under_a, below_read, only_root}
use Rattle.demands.proofs.Keeping.{order_keeps}

abbrev pub deletes : List ℕ
deletes = 0 ∷ 1 ∷ 1 ∷ 2 ∷ []

abbrev pub reads : List ℕ
reads = 0 ∷ 1 ∷ 1 ∷ 3 ∷ []

-- the delete, and then a read
abbrev pub frames : List ℕ → List (Frame (List ℕ) Update)
frames q = update (delete deletes) ∷ read q ∷ []

-- a batch of these two: its plan, by a relation that is decided
module _ (b q : List ℕ) (are : batch_of b ≡ frames q) (accepted : plan_check b 2 ≡ Fine) (words : Bits16 b)
    {Related : List ℕ → Update → Type 0} {test : List ℕ → Update → Bool} (decides : DecidedBy Related test) (w : ℕ) (is : w ≡ slot test (frames q) 1 q) where
  its_slot : SlotIs Related (frames q) 1 q w
  unfolding plan_check
  its_slot =
      let at : At (batch_of b) 1 (read q) = rw are (there here) in
      rw (← are) ((accepted_slot decides b words (then_first (batch_check b) _ accepted) at w).1 (rw are is))

  word : {k : ℕ} {f : Frame (List ℕ) Update} → At (frames q) k f → WordIs Related (frames q) k f (get_or (1 ∷ w ∷ []) k 0)
  unfolding number earlier
  word here = refl
  word (there here) = its_slot
  word (there (there p)) = absurd (omega (arith, at_below p))

  pub two_plan : PlanOf Related b (0 ∷ 0 ∷ []) (1 ∷ w ∷ []) (Ok 2)
  two_plan = (accepted, rw are, rw are (record { words = word; behind = behind; kept = refl }))
    where
      behind : (i : ℕ) → 2 ≤ i → ◌≡◌ {A = ℕ} (get_or (1 ∷ w ∷ []) i 0) (get_or (0 ∷ 0 ∷ []) i 0)
      behind zero h = absurd (omega arith)
      behind (suc zero) h = absurd (omega arith)
      behind (suc (suc i)) h = refl

pub frames_are : batch_of example ≡ frames reads
unfolding batch_of frames_from meaning update_of end_of
frames_are = refl

accepted : plan_check example 2 ≡ Fine
unfolding plan_check batch_check check_from frame_check kind_right steps_check count_check rest_check end_of pattern_check size_check each axis_check axis_right output_check batch_of frames_from meaning update_of
accepted = refl

pub clear : conflicting reads (delete deletes) ≡ false
unfolding delete_way meeting_of meeting shorter longer sooner agree landing shared
clear = refl

pub clear_deep : deeply reads (delete deletes) ≡ false
unfolding delete_deep fewest_of fewest onward least sooner agree
clear_deep = refl

words : Bits16 example
unfolding small
words = words_of example refl

-- by a relation that is decided, and does not hold of them
module _ {Related : List ℕ → Update → Type 0} {test : List ℕ → Update → Bool} (decides : DecidedBy Related test) (none : test reads (delete deletes) ≡ false) where
  pub moved_plan : PlanOf Related example (0 ∷ 0 ∷ []) (1 ∷ 0 ∷ []) (Ok 2)
  unfolding slot nearest earlier updates_at
  moved_plan = two_plan example reads frames_are accepted words decides 0 (rw none)

  pub moved_keeps : Keeps (1 ∷ 0 ∷ []) (batch_of example) (1 ∷ 0 ∷ [])
  moved_keeps = order_keeps decides example (0 ∷ 0 ∷ []) (1 ∷ 0 ∷ []) 2 words moved_plan (rw frames_are (read_first test (delete deletes) reads none))

pub start : Start example b_under_a
unfolding small plan_check whole_check identities_check identity_check identity_right document_check shape_check used_check used_right each node_check parent_right mark_check mark_right
start = record { words = words; batch = then_first (batch_check example) _ accepted; rows = words_of b_under_a.tables.rows refl; document = refl }

-- the second example: a delete below the node that is read
below_are : batch_of below_read ≡ update (delete deletes) ∷ read only_root ∷ []
unfolding batch_of frames_from meaning update_of end_of
below_are = refl

below_accepted : batch_check below_read ≡ Fine
unfolding batch_check check_from frame_check kind_right steps_check count_check rest_check end_of pattern_check size_check each axis_check axis_right
below_accepted = refl

below_clear : conflicting only_root (delete deletes) ≡ false
unfolding delete_way meeting_of meeting shorter longer sooner agree landing shared
below_clear = refl

below_deep : deeply only_root (delete deletes) ≡ true
unfolding delete_deep fewest_of fewest onward least sooner agree
below_deep = refl

below_slot : {Related : List ℕ → Update → Type 0} {test : List ℕ → Update → Bool} → DecidedBy Related test → (w : ℕ) → w ≡ slot test (batch_of below_read) 1 only_root →
    SlotIs Related (batch_of below_read) 1 only_root w
unfolding small
below_slot decides w is =
    let at : At (batch_of below_read) 1 (read only_root) = rw below_are (there here) in
    (accepted_slot decides below_read (words_of below_read refl) below_accepted at w).1 is

pub slots_differ : SlotIs Conflict (batch_of below_read) 1 only_root 0 × SlotIs Deep (batch_of below_read) 1 only_root 1
unfolding slot nearest earlier updates_at
slots_differ = (below_slot conflicting_decides 0 (rw (below_are, below_clear)), below_slot deeply_decides 1 (rw (below_are, below_deep)))
