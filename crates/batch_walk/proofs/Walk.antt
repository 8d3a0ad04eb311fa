-- A walk from the front gives the batch's frames, one a call: of an accepted batch all, then none left; else those before the bad one, then its refusal.
use Rattle.std.specs.Prelude.{Option, Some, None, Result, Ok, Err}
use Rattle.outcomes.specs.declared.frames.Extent.{Extent}
use Prim.Native.Nat.{ℕ, zero, suc, ◌+◌, ◌-◌, ◌<◌, ◌≤◌}
use mathlib.Core.Path.{◌≡◌, refl, sym, subst, ◌∙◌}
use mathlib.Core.Bool.{Bool, true, false, cond}
use mathlib.Core.List.{List, [], ◌∷◌}
use native.Mathlib.Decide.{dec_lt, dec_le}
use native.Mathlib.Numerals.{add-one}
use native.Mathlib.Omega.{arith}
use lib.Dec.{ltb, leb}
use lib.ListN.{length, take, drop, length-drop}
use lib.Seq.{take-add, take_all}
use borrow.Author.Tests.{lt-ltb, le-ltb, le-leb, lt-leb}
use Rattle.tables.specs.Limits.{batch_limit}
use Rattle.tables.specs.Checks.{refuse, Checked, Fine}
use Rattle.tables.specs.Refusals.{numbered}
use Rattle.tables.specs.declared.refusal.Refusal.{Refusal}
use Rattle.tables.proofs.Accepted.{never, then_first}
use Rattle.order.specs.Frames.{At, here, there}
use Rattle.batch_frame.specs.Frames.{frame_check, end_of, frame_of, answered, frame_at}
use Rattle.batch_frame.specs.Faults.{named, FaultAt}
use Rattle.batch_frame.proofs.Faulty.{frame_fault}
use Rattle.batch_check.specs.Batches.{meaning, frames_from, batch_of, check_from, batch_check}
use Rattle.batch_check.proofs.Frames.{frames-on, frames_off, check_on}
use Rattle.batch_walk.specs.Walking.{answer_of, step_at, place_after, part_at}
use Rattle.batch_walk.specs.Walk.{call_place, call_number, call_gives, first_parts, GivesFrame, StopsAt}
use Rattle.batch_walk.proofs.Given.{frame_from}
use Rattle.batch_walk.proofs.Branches.{place_refused, place_frame, place-over, step-over, step_frame}
use Rattle.batch_walk.proofs.Laws.{long_always, refused_stays, over-stays, frame_place, frame_next, frame_part}
use Rattle.batch_walk.proofs.Alone.{frame_alone}

-- what is left of a list, from its element k on
module _ {A : Type 0} where
  at_left : (l : List A) (k : ℕ) {a : A} {rest : List A} → drop k l ≡ a ∷ rest → At l k a
  at_left [] zero e = let z : ◌≡◌ {A = ℕ} 0 1 = cc in absurd (omega arith)
  at_left [] (suc k) e = let z : ◌≡◌ {A = ℕ} 0 1 = cc in absurd (omega arith)
  at_left (c ∷ l) zero {a} e = let same : a ≡ c = cc in rw same here
  at_left (c ∷ l) (suc k) e = there (at_left l k e)

  left-next : (l : List A) (k : ℕ) {a : A} {rest : List A} → drop k l ≡ a ∷ rest → drop (suc k) l ≡ rest
  left-next [] zero e = let z : ◌≡◌ {A = ℕ} 0 1 = cc in absurd (omega arith)
  left-next [] (suc k) e = let z : ◌≡◌ {A = ℕ} 0 1 = cc in absurd (omega arith)
  left-next (c ∷ l) zero e = cc
  left-next (c ∷ l) (suc k) e = left-next l k e

-- what every call behind the last frame that is given gives, by the batch's check
abbrev ending : Checked → Result (Option Extent) Refusal
ending (Ok tt) = Ok None
ending (Err r) = Err r

-- call k is made at this place, with number k: the checks and the frames from there on are what is left of those of the batch
record MadeAt (b : List ℕ) (k at : ℕ) : Type 0 where
  place : call_place b k ≡ at
  number : call_number b k ≡ k
  check : check_from b 0 0 (length b) ≡ check_from b k at (length b)
  frames : drop k (batch_of b) ≡ frames_from b at (length b)

module _ (b : List ℕ) where
  front : MadeAt b 0 0
  unfolding call_place call_number batch_of
  front = record { place = refl; number = refl; check = refl; frames = refl }

  -- a walk never goes back
  place-on : (n at : ℕ) → at ≤ place_after b n at
  place-on n at = go (step_at b n at) refl
    where
      go : (s : Result (Option Extent) Refusal) → step_at b n at ≡ s → at ≤ place_after b n at
      go (Err r) e = omega (arith, place_refused b n at refl e)
      go (Ok (Some f)) e = omega (arith, place_frame b n at refl e, frame_from b n at refl e)
      go (Ok None) e = omega (arith, place-over b n at refl e)

  -- the parts of the first calls are the batch up to where the walk stands
  pub parts_join : (k : ℕ) → first_parts b k ≡ take (call_place b k) b
  unfolding call_place call_number first_parts part_at
  parts_join zero = refl
  parts_join (suc k) =
      let number = call_number b k in
      let at = call_place b k in
      let whole : at + (place_after b number at - at) ≡ place_after b number at = omega (arith, place-on number at) in
      rw (parts_join k, ← take-add, whole)

  -- none is left only at the end
  over_end : (n at : ℕ) → step_at b n at ≡ Ok None → length b ≤ at
  unfolding step_at frame_at
  over_end n at e = go (leb (length b) batch_limit) (dec_lt at (length b)) (frame_check b n at) e
    where
      go : (s : Bool) → Dec (at < length b) → (c : Checked)
          → cond s (cond (ltb at (length b)) (answer_of (answered c (frame_of b at))) (Ok None))
          (Err (record { reason = numbered 10; table = 6; place = batch_limit }))
          ≡ Ok None
          → length b ≤ at
      go s (no h) c e = omega arith
      go true (yes h) (Ok tt) e = let f = rw (lt-ltb at (length b) h) at e in let z : ◌≡◌ {A = ℕ} 0 1 = cc in absurd (omega arith)
      go true (yes h) (Err r) e = let f = rw (lt-ltb at (length b) h) at e in let z : ◌≡◌ {A = ℕ} 0 1 = cc in absurd (omega arith)
      go false (yes h) c e = let z : ◌≡◌ {A = ℕ} 0 1 = cc in absurd (omega arith)

  -- within 16,384 words
  module _ (words : length b ≤ batch_limit) where
    step_good : (k at : ℕ) → at < length b → frame_check b k at ≡ Fine → step_at b k at ≡ Ok (Some (frame_of b at))
    unfolding frame_at
    step_good k at h fine = sym (step_frame b k at words h (rw fine))

    step_bad : (k at : ℕ) {r : Refusal} → at < length b → frame_check b k at ≡ Err r → step_at b k at ≡ Err r
    unfolding frame_at
    step_bad k at h why = sym (step_frame b k at words h (rw why))

    module _ {k at : ℕ} (r : MadeAt b k at) where
      left : at < length b → drop k (batch_of b) ≡ meaning b at ∷ frames_from b (end_of b at) (length b)
      left h = r.frames ∙ frames-on b at h

      -- behind a frame
      next : at < length b → frame_check b k at ≡ Fine → MadeAt b (suc k) (end_of b at)
      unfolding call_place call_number
      next h fine =
          let e = step_good k at h fine in
          record {
            place = simp (r.number, r.place, frame_place b k at e);
            number = simp (r.number, r.place, frame_next b k at e, add-one);
            check = r.check ∙ check_on b at h k ∙ rw fine;
            frames = left-next (batch_of b) k (left h);
          }

      gone : length b ≤ at → length (batch_of b) ≤ k
      gone h =
          let nothing : length (batch_of b) - k ≡ 0 = rw (← length-drop, r.frames, frames_off b at h) in
          omega arith

      more : at < length b → k < length (batch_of b)
      more h =
          let some : length (batch_of b) - k ≡ suc (length (frames_from b (end_of b at) (length b))) = rw (← length-drop, left h) in
          omega arith

      gives_here : at < length b → frame_check b k at ≡ Fine → GivesFrame b k
      gives_here h fine =
          let e = step_good k at h fine in
          record {
            frame = meaning b at;
            is = at_left (batch_of b) k (left h);
            stands = rw r.place;
            given = rw (r.number, r.place) e;
            alone = rw (r.number, r.place, frame_part b k at e) (frame_alone b k at fine);
          }

    -- of an accepted batch every frame is given
    module _ (accepted : check_from b 0 0 (length b) ≡ Fine) where
      fine_here : {k at : ℕ} → MadeAt b k at → at < length b → frame_check b k at ≡ Fine
      fine_here {k} {at} r h = then_first (frame_check b k at) _ (sym (check_on b at h k) ∙ sym r.check ∙ accepted)

      reach : (k : ℕ) → k ≤ length (batch_of b) → (at : ℕ) × MadeAt b k at
      reach zero h = (0, front)
      reach (suc k) h = go (reach k (omega arith))
        where
          go : (at : ℕ) × MadeAt b k at → (at : ℕ) × MadeAt b (suc k) at
          go (at, r) = on (dec_lt at (length b))
            where
              on : Dec (at < length b) → (at : ℕ) × MadeAt b (suc k) at
              on (yes l) = (end_of b at, next r l (fine_here r l))
              on (no l) = absurd (omega (arith, gone r (omega arith)))

      gives : (k : ℕ) → k < length (batch_of b) → GivesFrame b k
      gives k h = go (reach k (omega arith))
        where
          go : (at : ℕ) × MadeAt b k at → GivesFrame b k
          go (at, r) = on (dec_lt at (length b))
            where
              on : Dec (at < length b) → GivesFrame b k
              on (yes l) = gives_here r l (fine_here r l)
              on (no l) = absurd (omega (arith, gone r (omega arith)))

      ends : call_gives b (length (batch_of b)) ≡ Ok None
      ends = go (reach (length (batch_of b)) (omega arith))
        where
          go : (at : ℕ) × MadeAt b (length (batch_of b)) at → call_gives b (length (batch_of b)) ≡ Ok None
          go (at, r) = on (dec_lt at (length b))
            where
              on : Dec (at < length b) → call_gives b (length (batch_of b)) ≡ Ok None
              on (yes l) = absurd (omega (arith, more r l))
              on (no l) = rw (r.number, r.place) (sym (step-over b (length (batch_of b)) at words (omega arith)))

  -- what a walk ends with, every later call gives again
  again : (c : Checked) (k : ℕ) → call_gives b k ≡ ending c → call_gives b (suc k) ≡ ending c
  unfolding call_place call_number
  again (Err r) k e = refused_stays b (call_number b k) (call_place b k) e
  again (Ok tt) k e = over-stays b (call_number b k) (call_place b k) e

  stays : (c : Checked) (last : ℕ) → call_gives b last ≡ ending c → (k : ℕ) → last ≤ k → call_gives b k ≡ ending c
  stays c last e zero h = let same : 0 ≡ last = omega arith in rw same e
  stays c last e (suc k) h = go (dec_le last k) (stays c last e k)
    where
      go : Dec (last ≤ k) → (last ≤ k → call_gives b k ≡ ending c) → call_gives b (suc k) ≡ ending c
      go (yes l) before = again c k (before l)
      go (no l) before = let same : suc k ≡ last = omega arith in rw same e

  -- of a refused one every frame before the bad one is given, and from there on its refusal
  module _ (words : length b ≤ batch_limit) {why : Refusal} where
    bad_here : {k at : ℕ} → MadeAt b k at → ((j : ℕ) → j < k → GivesFrame b j) → at < length b → frame_check b k at ≡ Err why → StopsAt b why
    bad_here {k} {at} r earlier h refused = record {
      frame = k;
      before = earlier;
      refused = stays (Err why) k (rw (r.number, r.place) (step_bad words k at h refused));
      fault = subst (λ (x : ℕ). FaultAt b k x why) (sym r.place) (frame_fault b k at h refused);
    }

    stop : {k at : ℕ} (most : ℕ) → MadeAt b k at → ((j : ℕ) → j < k → GivesFrame b j) → check_from b k at most ≡ Err why → StopsAt b why
    unfolding check_from
    stop zero r earlier e = never e refl
    stop {k} {at} (suc most) r earlier e = go (dec_lt at (length b)) (frame_check b k at) refl (λ later given f. stop {k = suc k} {at = end_of b at} most later given f)
      where
        one_more : at < length b → frame_check b k at ≡ Fine → (j : ℕ) → j < suc k → GivesFrame b j
        one_more h fine j l = on (dec_lt j k)
          where
            on : Dec (j < k) → GivesFrame b j
            on (yes below) = earlier j below
            on (no above) = let same : j ≡ k = omega arith in rw same (gives_here words r h fine)

        go : Dec (at < length b) → (c : Checked) → frame_check b k at ≡ c
            → (MadeAt b (suc k) (end_of b at) → ((j : ℕ) → j < suc k → GivesFrame b j) → check_from b (suc k) (end_of b at) most ≡ Err why → StopsAt b why)
            → StopsAt b why
        go (yes h) (Ok tt) fine further = further (next words r h fine) (one_more h fine) (rw (lt-ltb at (length b) h, fine) at e)
        go (yes h) (Err w) is further =
            let same : Err w ≡ Err why = rw (lt-ltb at (length b) h, is) at e in
            bad_here r earlier h (is ∙ same)
        go (no h) c is further =
            let none : Fine ≡ Err why = rw (le-ltb at (length b) (omega arith)) at e in
            never none refl

  -- within the limit the batch's check is that of its frames; over it no frame is given
  within : (c : Checked) → batch_check b ≡ c → length b ≤ batch_limit → check_from b 0 0 (length b) ≡ c
  unfolding batch_check
  within c is words = rw (le-leb (length b) batch_limit words) at is

  over : batch_limit < length b → batch_check b ≡ refuse 10 6 batch_limit
  unfolding batch_check
  over long = rw (lt-leb (length b) batch_limit long)

  -- of an accepted batch each frame, then none left
  module _ (fine : batch_check b ≡ Fine) where
    words_few : length b ≤ batch_limit
    words_few = go (dec_le (length b) batch_limit)
      where
        go : Dec (length b ≤ batch_limit) → length b ≤ batch_limit
        go (yes h) = h
        go (no h) = never (over (omega arith)) fine

    pub walk_frames : (k : ℕ) → k < length (batch_of b) → GivesFrame b k
    walk_frames = gives words_few (within Fine fine words_few)

    pub walk_over : (k : ℕ) → length (batch_of b) ≤ k → call_gives b k ≡ Ok None
    walk_over = stays Fine (length (batch_of b)) (ends words_few (within Fine fine words_few))

    -- and then the parts are the whole batch
    pub walk_whole : (k : ℕ) → length (batch_of b) ≤ k → first_parts b k ≡ b
    walk_whole k h =
        rw (parts_join k) (take_all (call_place b k) b (over_end (call_number b k) (call_place b k) (walk_over k h)))

  -- a refused one within the limit stops the walk at one frame; over the limit every call is refused
  pub walk_stops : {why : Refusal} → batch_check b ≡ Err why → length b ≤ batch_limit → StopsAt b why
  walk_stops {why} refused words = stop words (length b) front (λ j h. absurd (omega arith)) (within (Err why) refused words)

  pub walk_long : batch_limit < length b → (batch_check b ≡ refuse 10 6 batch_limit) × ((k : ℕ) → call_gives b k ≡ Err (named 10 batch_limit))
  walk_long long = (over long, λ k. long_always b (call_number b k) (call_place b k) long)
