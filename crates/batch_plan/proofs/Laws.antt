-- What the plan's contract settles, and what follows for accepted batches.
use Rattle.std.specs.Prelude.{Result, Ok, Err}
use Rattle.tables.specs.Checks.{Checked, Fine}
use Prim.Native.Nat.{ℕ, ◌<◌}
use mathlib.Core.Path.{◌≡◌, sym, ◌∙◌}
use mathlib.Core.Bool.{Bool}
use mathlib.Core.List.{List}
use mathlib.Core.Logic.{◌↔◌}
use native.Mathlib.Decide.{dec_lt}
use native.Mathlib.Omega.{arith}
use lib.ListN.{length, get_or}
use lib.Seq.{ext_get_or}
use Rattle.tables.specs.declared.refusal.Refusal.{Refusal}
use Rattle.tables.specs.Words.{Bits16}
use Rattle.conflict.specs.Conflict.{Update}
use Rattle.order.specs.Model.{slot}
use Rattle.order.specs.Frames.{Frame, read, update, At, earlier}
use Rattle.order.proofs.Places.{by_kind}
use Rattle.order.proofs.Slots.{slot_same}
use Rattle.order.specs.Fitting.{DecidedBy}
use Rattle.order.proofs.Deciding.{conflicting, conflicting_decides, deeply, deeply_decides}
use Rattle.batch_mode.specs.Modes.{relation_of}
use Rattle.batch_mode.specs.declared.Mode.{Mode}
use Rattle.batch_mode.specs.declared.Mode.TheVariants.{Node, Deep}
use Rattle.batch_check.specs.Batches.{batch_of, batch_check}
use Rattle.batch_plan.specs.Batch.{SlotIs, WordIs, PlanWritten, PlanBy}
use Rattle.batch_check.proofs.Frames.{accepted_fits}
use Rattle.batch_plan.proofs.Slots.{slot_one, slot_exactly}

-- each mode has a test that decides its relation
abbrev pub test_in : Mode → List ℕ → Update → Bool
test_in Node = conflicting
test_in Deep = deeply

pub mode_decides : (m : Mode) → DecidedBy (relation_of m) (test_in m)
mode_decides Node = conflicting_decides
mode_decides Deep = deeply_decides

module _ (Related : List ℕ → Update → Type 0) where
  -- a frame has one word
  pub word_one : (b : List (Frame (List ℕ) Update)) (k : ℕ) (f : Frame (List ℕ) Update) {v w : ℕ} → WordIs Related b k f v → WordIs Related b k f w → v ≡ w
  word_one b k (read r) s t = slot_one s t
  word_one b k (update u) s t = s ∙ sym t

  -- two plans of one batch over one buffer are identical
  written_one : {b : List (Frame (List ℕ) Update)} {before one two : List ℕ} → PlanWritten Related b before one → PlanWritten Related b before two → one ≡ two
  written_one {b} {before} {one} {two} s t = ext_get_or 0 one two (s.kept ∙ sym t.kept) (λ i h. go i (dec_lt i (length b)))
    where
      go : (i : ℕ) → Dec (i < length b) → get_or one i 0 ≡ get_or two i 0
      go i (yes h) =
          by_kind b i h
          (λ r p. word_one b i (read r) (s.words p) (t.words p))
          (λ u p. word_one b i (update u) (s.words p) (t.words p))
      go i (no h) = s.behind i (omega arith) ∙ sym (t.behind i (omega arith))

  -- two answers and plans that meet the contract are identical
  pub plan_one : (order : Checked) (b before : List ℕ) {one two : List ℕ} (v w : Result ℕ Refusal) → PlanBy order Related b before one v → PlanBy order Related b before two w → (v ≡ w) × (one ≡ two)
  plan_one order b before (Err x) (Err y) s t = (cc, s.1 ∙ sym t.1)
  plan_one order b before (Err x) (Ok n) s t = let z : ◌≡◌ {A = ℕ} 0 1 = cc in absurd (omega arith)
  plan_one order b before (Ok m) (Err y) s t = let z : ◌≡◌ {A = ℕ} 0 1 = cc in absurd (omega arith)
  plan_one order b before (Ok m) (Ok n) s t = (cc, written_one s.2 t.2)

-- a relation that is decided, and a batch of words of 16 bits that is accepted
module _ {Related : List ℕ → Update → Type 0} {test : List ℕ → Update → Bool} (decides : DecidedBy Related test) (b : List ℕ) (words : Bits16 b) (accepted : batch_check b ≡ Fine) where
  -- the slot of a read by the relation is the slot of demand 3
  pub accepted_slot : {k : ℕ} {r : List ℕ} → At (batch_of b) k (read r) → (w : ℕ) → SlotIs Related (batch_of b) k r w ↔ (w ≡ slot test (batch_of b) k r)
  accepted_slot at w = slot_exactly decides (accepted_fits b words accepted) at w

-- two accepted batches that agree on a read and on the updates before it give that read the same slot
pub same_slot : (m : Mode) (b c : List ℕ) → Bits16 b → Bits16 c → batch_check b ≡ Fine → batch_check c ≡ Fine
    → {k l : ℕ} {r : List ℕ} → At (batch_of b) k (read r) → At (batch_of c) l (read r) → earlier (batch_of b) k ≡ earlier (batch_of c) l
    → {v w : ℕ} → SlotIs (relation_of m) (batch_of b) k r v → SlotIs (relation_of m) (batch_of c) l r w → v ≡ w
same_slot m b c wb wc ab ac {k} {l} {r} p q same {v} {w} s t =
    (accepted_slot (mode_decides m) b wb ab p v).0 s
    ∙ slot_same (test_in m) (batch_of b) (batch_of c) k l r same
    ∙ sym ((accepted_slot (mode_decides m) c wc ac q w).0 t)
