-- In a plan a read's slot never moves towards 0 where frames are made wider; where one read is, all other words stay.
use Rattle.std.specs.Prelude.{Ok}
use Prim.Native.Nat.{ℕ, zero, suc, ◌<◌, ◌≤◌}
use mathlib.Core.Path.{◌≡◌, refl, sym, ◌∙◌, subst}
use mathlib.Core.List.{List, [], ◌∷◌}
use mathlib.Core.Logic.{◌≢◌}
use native.Mathlib.Decide.{ℕ_discrete}
use native.Mathlib.Nat.{le_antisymm}
use native.Mathlib.Omega.{arith}
use lib.ListN.{length, get_or}
use Rattle.tables.specs.Words.{Bits16}
use Rattle.tables.specs.Checks.{output_check}
use Rattle.tables.proofs.Accepted.{then_first}
use Rattle.conflict.specs.Conflict.{Update}
use Rattle.order.specs.Frames.{Frame, read, update, At, here, there, earlier, number}
use Rattle.order.specs.Model.{Fits}
use Rattle.order.specs.Fitting.{Fit, FitUpdate, FitFrame}
use Rattle.order.proofs.Places.{at_one, at_below, by_kind, not_both, apart}
use Rattle.batch_mode.specs.Modes.{relation_of}
use Rattle.batch_mode.specs.declared.Mode.{Mode}
use Rattle.batch_mode.specs.declared.Mode.TheVariants.{Node, Deep}
use Rattle.batch_check.specs.Batches.{batch_of, batch_check, plan_check}
use Rattle.batch_check.proofs.Frames.{accepted_fits}
use Rattle.batch_plan.specs.Batch.{SlotIs, PlanOf}
use Rattle.batch_plan.proofs.Numbers.{earlier-next}
use Rattle.batch_plan.proofs.Slots.{slot_no_less}
use Rattle.wider.specs.Wider.{WiderPattern, WiderUpdate, Wider}
use Rattle.wider.specs.Batches.{WiderFrame, reads, updates, WiderFrames, WidenedRead}
use Rattle.wider.proofs.Relation.{pattern_itself, update_itself}
use Rattle.wider.proofs.Conflicts.{conflict_wider, deep_wider}

-- a frame by its kind
wider_read : {r s : List ℕ} → WiderFrame (read r) (read s) → WiderPattern r s
wider_read (reads w) = w

wider_update : {u v : Update} → WiderFrame (update u) (update v) → WiderUpdate u v
wider_update (updates w) = w

no_update : {r : List ℕ} {v : Update} → WiderFrame (read r) (update v) → ⊥
no_update w = elim w [ ]

no_read : {u : Update} {s : List ℕ} → WiderFrame (update u) (read s) → ⊥
no_read w = elim w [ ]

frame_itself : (f : Frame (List ℕ) Update) → WiderFrame f f
frame_itself (read r) = reads (pattern_itself r)
frame_itself (update u) = updates (update_itself u)

-- a batch is made wider frame by frame
pub no_frames : WiderFrames [] []
no_frames = record { frames = refl; each = λ p q. absurd (omega (arith, at_below p)) }

pub more_frames : {f g : Frame (List ℕ) Update} {b c : List (Frame (List ℕ) Update)} → WiderFrame f g → WiderFrames b c → WiderFrames (f ∷ b) (g ∷ c)
more_frames {f} {g} {b} {c} first rest = record { frames = omega (arith, rest.frames); each = both }
  where
    both : {k : ℕ} {d e : Frame (List ℕ) Update} → At (f ∷ b) k d → At (g ∷ c) k e → WiderFrame d e
    both here here = first
    both (there p) (there q) = rest.each p q

-- what a mode asks of a read and an update holds of a wider pair
related_wider : (m : Mode) {r s : List ℕ} {u v : Update} → Fit r → FitUpdate u → FitUpdate v → Wider r u s v → relation_of m r u → relation_of m s v
related_wider Node fit fits fits' w = conflict_wider fit fits fits' w
related_wider Deep fit fits fits' w = deep_wider fit fits fits' w

module _ {b c : List (Frame (List ℕ) Update)} (wider : WiderFrames b c) where
  -- in the wider batch an update stands where one stood, of the same number
  earlier_wider : (k : ℕ) → k ≤ length b → length (earlier c k) ≡ length (earlier b k)
  unfolding earlier
  earlier_wider zero h = refl
  earlier_wider (suc k) h =
      by_kind b k h
      (λ r p.
      by_kind c k (rw wider.frames h)
      (λ s q. rw (earlier-next p, earlier-next q) (earlier_wider k (omega arith)))
      (λ v q. absurd (no_update (wider.each p q))))
      (λ u p.
      by_kind c k (rw wider.frames h)
      (λ s q. absurd (no_read (wider.each p q)))
      (λ v q. rw (earlier-next p, earlier-next q) (omega (arith, earlier_wider k (omega arith)))))

  pub number_wider : {k : ℕ} → k ≤ length b → number c k ≡ number b k
  unfolding number
  number_wider {k} h = omega (arith, earlier_wider k h)

  pub read_there : {X : Type 0} {j : ℕ} {r : List ℕ} → At b j (read r) → ((s : List ℕ) → At c j (read s) → WiderPattern r s → X) → X
  read_there {j = j} p f =
      by_kind c j (rw wider.frames (at_below p))
      (λ s q. f s q (wider_read (wider.each p q)))
      (λ v q. absurd (no_update (wider.each p q)))

  pub update_there : {X : Type 0} {j : ℕ} {u : Update} → At b j (update u) → ((v : Update) → At c j (update v) → WiderUpdate u v → X) → X
  update_there {j = j} p f =
      by_kind c j (rw wider.frames (at_below p))
      (λ s q. absurd (no_read (wider.each p q)))
      (λ v q. f v q (wider_update (wider.each p q)))

  -- the slot of a read is no less in the wider batch
  pub slot_wider : (m : Mode) → Fits FitFrame b → Fits FitFrame c → {k : ℕ} {r s : List ℕ} → At b k (read r) → At c k (read s) →
      {v w : ℕ} → SlotIs (relation_of m) b k r v → SlotIs (relation_of m) c k s w → v ≤ w
  slot_wider m fits fits' {k} {r} {s} p q one other =
      slot_no_less one other (λ j u at before related.
      update_there at (λ v there more.
      record {
        frame = j;
        what = v;
        at = there;
        earlier = before;
        related = related_wider m (fits.fit p) (fits.fit at) (fits'.fit there) (record { read = wider_read (wider.each p q); update = more }) related;
        numbered = number_wider (omega (arith, at_below at));
      }))

module _ {b c : List (Frame (List ℕ) Update)} {k : ℕ} {r s : List ℕ} (widened : WidenedRead b c k r s) where
  -- one read made wider makes a wider batch
  pub widened_wider : WiderFrames b c
  widened_wider = record { frames = widened.frames; each = λ {k = j} {f} {g} p q. go j f g p q (ℕ_discrete j k) }
    where
      go : (j : ℕ) (f g : Frame (List ℕ) Update) → At b j f → At c j g → Dec (j ≡ k) → WiderFrame f g
      go j f g p q (yes e) =
          let was : read r ≡ f = at_one widened.was (subst (λ (n : ℕ). At b n f) e p) in
          let is : read s ≡ g = at_one widened.is (subst (λ (n : ℕ). At c n g) e q) in
          rw (← was, ← is) (reads widened.wider)
      go j f g p q (no e) =
          let same : f ≡ g = at_one (widened.others e p) q in
          rw (← same) (frame_itself f)

  -- the updates are the same
  update_stays : {j : ℕ} {u : Update} → At b j (update u) → At c j (update u)
  update_stays p = widened.others (λ e. apart widened.was p (sym e)) p

  update_stood : {j : ℕ} {u : Update} → At c j (update u) → At b j (update u)
  update_stood {j} {u} q =
      by_kind b j (rw (← widened.frames) (at_below q))
      (λ t p. absurd (not_both (at_one (widened.others other p) q)))
      (λ w p.
      let same : ◌≡◌ {A = Frame (List ℕ) Update} (update w) (update u) = at_one (widened.others other p) q in
      rw (← same) p)
    where
      other : j ≢ k
      other e = apart widened.is q (sym e)

  -- so every other read keeps its slot
  pub slot-stays : {Related : List ℕ → Update → Type 0} {j : ℕ} {t : List ℕ} {v w : ℕ} → SlotIs Related b j t v → SlotIs Related c j t w → v ≡ w
  slot-stays one other =
      le_antisymm
      (slot_no_less one other (λ i u at before related.
      record {
        frame = i;
        what = u;
        at = update_stays at;
        earlier = before;
        related = related;
        numbered = number_wider widened_wider (omega (arith, at_below at));
      }))
      (slot_no_less other one (λ i u at before related.
      record {
        frame = i;
        what = u;
        at = update_stood at;
        earlier = before;
        related = related;
        numbered = sym (number_wider widened_wider (omega (arith, at_below (update_stood at))));
      }))

-- two plans in one mode
module _ (m : Mode) (b c before plan before' plan' : List ℕ) {n n' : ℕ} (words : Bits16 b) (words' : Bits16 c)
    (narrow : PlanOf (relation_of m) b before plan (Ok n)) (wide : PlanOf (relation_of m) c before' plan' (Ok n')) where
  fits : Fits FitFrame (batch_of b)
  unfolding plan_check
  fits = accepted_fits b words (then_first (batch_check b) (output_check (length (batch_of b)) (length before)) narrow.0)

  fits' : Fits FitFrame (batch_of c)
  unfolding plan_check
  fits' = accepted_fits c words' (then_first (batch_check c) (output_check (length (batch_of c)) (length before')) wide.0)

  -- of the frames of one and of wider ones: as many words, and none is less
  module _ (wider : WiderFrames (batch_of b) (batch_of c)) where
    pub count_same : n' ≡ n
    count_same = wide.1 ∙ wider.frames ∙ sym narrow.1

    pub word_wider : (k : ℕ) → k < n → get_or plan k 0 ≤ get_or plan' k 0
    word_wider k h =
        by_kind (batch_of b) k inside
        (λ r p. read_there wider p (λ s q more. slot_wider wider m fits fits' p q (narrow.2.words p) (wide.2.words q)))
        (λ u p. update_there wider p (λ v q more. omega (arith, narrow.2.words p, wide.2.words q, number_wider wider {k = k} (omega (arith, inside)))))
      where
        inside : k < length (batch_of b)
        inside = rw (← narrow.1) h

  -- of one read made wider: all words but its own stay
  module _ {k : ℕ} {r s : List ℕ} (widened : WidenedRead (batch_of b) (batch_of c) k r s) where
    pub word_stays : (j : ℕ) → j < n → j ≢ k → get_or plan' j 0 ≡ get_or plan j 0
    word_stays j h other =
        by_kind (batch_of b) j inside
        (λ t p. sym (slot-stays widened (narrow.2.words p) (wide.2.words (widened.others other p))))
        (λ u p. wide.2.words (widened.others other p) ∙ number_wider (widened_wider widened) (omega (arith, inside)) ∙ sym (narrow.2.words p))
      where
        inside : j < length (batch_of b)
        inside = rw (← narrow.1) h
