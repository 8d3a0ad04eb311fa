-- The walk over the frames: what holds before each of them, and one turn.
use Prim.Native.Nat.{ℕ, zero, suc, ◌+◌, ◌<◌, ◌≤◌}
use mathlib.Core.Path.{◌≡◌, refl, sym, ◌∙◌, ap, subst}
use mathlib.Core.List.{List, [], ◌∷◌}
use native.Mathlib.Decide.{dec_lt}
use native.Mathlib.Numerals.{add-one}
use native.Mathlib.Omega.{arith}
use lib.ListN.{length, get_or, drop, set, length-drop, length-set}
use lib.Seq.{get_or-set_same, get_or-set_other}
use borrow.Author.Tests.{ne_eqb}
use Rattle.tables.specs.Limits.{frame_limit}
use Rattle.tables.specs.Checks.{◌then◌, Fine}
use Rattle.tables.proofs.Accepted.{then_first, then_second}
use Rattle.conflict.specs.Conflict.{Update}
use Rattle.order.specs.Frames.{Frame, read, update, At, here, there, number}
use Rattle.order.proofs.Places.{at_one, at_below}
use Rattle.batch_frame.specs.Frames.{kind, end_of, frame_check}
use Rattle.batch_check.specs.Batches.{pattern_of, update_of, meaning, frames_from, batch_of, check_from}
use Rattle.batch_plan.specs.Batch.{SlotIs, WordIs, PlanWritten}
use Rattle.batch_plan.specs.Walking.{Standing, Updating, Planning}
use Rattle.batch_frame.proofs.Accepted.{frame_below}
use Rattle.batch_check.proofs.Frames.{frames-on, frames_off, check_on, accepted_frames}
use Rattle.batch_plan.proofs.Searching.{Noted, no_updates, noted-within, noted_read, noted_update}

-- the words of the first k frames are written, and what lies behind is as it was
pub record Filled (Related : List ℕ → Update → Type 0) (b : List (Frame (List ℕ) Update)) (k : ℕ) (before after : List ℕ) : Type 0 where
  pub words : {i : ℕ} {f : Frame (List ℕ) Update} → At b i f → i < k → WordIs Related b i f (get_or after i 0)
  pub behind : (i : ℕ) → k ≤ i → get_or after i 0 ≡ get_or before i 0
  pub kept : length after ≡ length before

filled_none : {Related : List ℕ → Update → Type 0} (b : List (Frame (List ℕ) Update)) (out : List ℕ) → Filled Related b 0 out out
filled_none b out = record { words = λ p h. absurd (omega arith); behind = λ i h. refl; kept = refl }

filled_more : {Related : List ℕ → Update → Type 0} {b : List (Frame (List ℕ) Update)} {k : ℕ} {before after : List ℕ} {f : Frame (List ℕ) Update} (w : ℕ)
    → Filled Related b k before after → At b k f → k < length before → WordIs Related b k f w → Filled Related b (k + 1) before (set after k w)
filled_more {Related} {b} {k} {before} {after} {f} w s at room is = record { words = λ {i} p h. go i p h (dec_lt i k); behind = behind; kept = rw length-set s.kept }
  where
    go : (i : ℕ) {g : Frame (List ℕ) Update} → At b i g → i < k + 1 → Dec (i < k) → WordIs Related b i g (get_or (set after k w) i 0)
    go i p h (yes l) = rw (get_or-set_other after k i w 0 (λ e. omega arith)) (s.words p l)
    go i {g} p h (no l) =
        let same : i ≡ k = omega arith in
        let one : f ≡ g = at_one at (subst (λ (n : ℕ). At b n g) same p) in
        rw (same, get_or-set_same after k w 0 (rw s.kept room), ← one) is

    behind : (i : ℕ) → k + 1 ≤ i → get_or (set after k w) i 0 ≡ get_or before i 0
    behind i h = get_or-set_other after k i w 0 (λ e. omega arith) ∙ s.behind i (omega arith)

-- the walk stands before frame k, at this place, with m updates noted
pub record Walked (Related : List ℕ → Update → Type 0) (b : List ℕ) (n : ℕ) (before after places : List ℕ) (m at k : ℕ) : Type 0 where
  pub planning : Planning b n (length before)
  pub within : k ≤ n
  pub left : drop k (batch_of b) ≡ frames_from b at (length b)
  pub fine : check_from b k at (length b) ≡ Fine
  pub noted : Noted b k places m
  pub long : length places ≡ frame_limit
  pub filled : Filled Related (batch_of b) k before after

pub walk_start : {Related : List ℕ → Update → Type 0} {b : List ℕ} {n : ℕ} {out places : List ℕ} → Planning b n (length out) → length places ≡ frame_limit → Walked Related b n out out places 0 0 0
unfolding batch_of
walk_start {b = b} {out = out} {places = places} p long = record {
  planning = p;
  within = omega arith;
  left = refl;
  fine = accepted_frames b p.accepted;
  noted = no_updates b places;
  long = long;
  filled = filled_none (batch_of b) out;
}

drop_at : {A : Type 0} (l : List A) (k : ℕ) {a : A} {rest : List A} → drop k l ≡ a ∷ rest → At l k a
drop_at [] zero e = let z : ◌≡◌ {A = ℕ} 0 1 = cc in absurd (omega arith)
drop_at (x ∷ l) zero {a} e = let same : x ≡ a = cc in rw same here
drop_at [] (suc k) e = let z : ◌≡◌ {A = ℕ} 0 1 = cc in absurd (omega arith)
drop_at (x ∷ l) (suc k) e = there (drop_at l k e)

drop-next : {A : Type 0} (l : List A) (k : ℕ) {a : A} {rest : List A} → drop k l ≡ a ∷ rest → drop (suc k) l ≡ rest
drop-next [] zero e = let z : ◌≡◌ {A = ℕ} 0 1 = cc in absurd (omega arith)
drop-next (x ∷ l) zero e = cc
drop-next [] (suc k) e = let z : ◌≡◌ {A = ℕ} 0 1 = cc in absurd (omega arith)
drop-next (x ∷ l) (suc k) e = drop-next l k e

module _ {Related : List ℕ → Update → Type 0} {b : List ℕ} {n : ℕ} {before after places : List ℕ} {m at k : ℕ} (s : Walked Related b n before after places m at k) (h : k < n) where
  -- a frame is left, so it stands within the batch
  in_batch : at < length b
  in_batch = go (dec_lt at (length b))
    where
      go : Dec (at < length b) → at < length b
      go (yes l) = l
      go (no l) =
          let none : drop k (batch_of b) ≡ [] = s.left ∙ frames_off b at (omega arith) in
          absurd (omega (arith, length-drop k (batch_of b), ap length none, s.planning.frames))

  next-left : drop k (batch_of b) ≡ meaning b at ∷ frames_from b (end_of b at) (length b)
  next-left = s.left ∙ frames-on b at in_batch

  next_check : (frame_check b k at then check_from b (suc k) (end_of b at) (length b)) ≡ Fine
  next_check = sym (check_on b at in_batch k) ∙ s.fine

  frame_here : frame_check b k at ≡ Fine
  frame_here = then_first (frame_check b k at) _ next_check

  pub stands : Standing b at
  stands = record { frame = k; fine = frame_here }

  few : k < frame_limit
  few = frame_below b k at frame_here

  pub noted_few : m < frame_limit
  noted_few = omega (arith, few, noted-within s.noted)

  pub room : k < length after
  room = omega (arith, s.filled.kept, s.planning.room)

  -- a turn, once its word is known and its update noted
  turn : {places' : List ℕ} {m' end : ℕ} (w : ℕ) → end ≡ end_of b at → Noted b (k + 1) places' m' → length places' ≡ frame_limit
      → WordIs Related (batch_of b) k (meaning b at) w → Walked Related b n before (set after k w) places' m' end (k + 1)
  turn w e noted long is = record {
    planning = s.planning;
    within = omega arith;
    left = rw (e, add-one) (drop-next (batch_of b) k next-left);
    fine = rw (e, add-one) (then_second (frame_check b k at) _ next_check);
    noted = noted;
    long = long;
    filled = filled_more w s.filled (drop_at (batch_of b) k next-left) (omega (arith, s.planning.room)) is;
  }

  module _ {kd : ℕ} (is : kd ≡ kind b at) where
    read_frame : kd ≡ 1 → meaning b at ≡ read (pattern_of b at)
    unfolding meaning
    read_frame e = rw (← is, e)

    update_frame : (kd ≡ 1 → ⊥) → meaning b at ≡ update (update_of b at)
    unfolding meaning
    update_frame e = rw (← is, ne_eqb kd 1 e)

    updates_here : (kd ≡ 1 → ⊥) → Updating b at
    updates_here e = record { standing = stands; other = λ q. e (is ∙ q) }

    -- a read gets its slot
    pub read_turn : {end w : ℕ} → end ≡ end_of b at → kd ≡ 1 → SlotIs Related (batch_of b) k (pattern_of b at) w
        → Walked Related b n before (set after k w) places m end (k + 1)
    read_turn {w} e one slot =
        turn w e (noted_read (rw (read_frame one) at (drop_at (batch_of b) k next-left)) s.noted) s.long
        (rw (read_frame one) slot)

    -- an update gets its number
    pub update_turn : {end : ℕ} → end ≡ end_of b at → (kd ≡ 1 → ⊥)
        → Walked Related b n before (set after k (m + 1)) (set places m at) (m + 1) end (k + 1)
    unfolding number
    update_turn e other =
        turn (m + 1) e
        (noted_update (rw (update_frame other) at (drop_at (batch_of b) k next-left)) (updates_here other) (omega (arith, s.long, noted_few)) s.noted)
        (simp length-set s.long)
        (rw (update_frame other, add-one) (ap suc s.noted.count))

-- after the last frame the plan is written
pub walk_end : {Related : List ℕ → Update → Type 0} {b : List ℕ} {n : ℕ} {before after places : List ℕ} {m at k : ℕ} → Walked Related b n before after places m at k → n ≤ k → PlanWritten Related (batch_of b) before after
walk_end s h =
    let all = s.planning.frames in
    record {
      words = λ p. s.filled.words p (omega (arith, at_below p, s.within));
      behind = λ i l. s.filled.behind i (omega (arith, s.within));
      kept = s.filled.kept;
    }
