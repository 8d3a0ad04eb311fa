-- Lines that are all taken are an accepted batch, a frame a line; a line that is refused has a small number.
use Prim.Native.Nat.{ℕ, suc, ◌+◌, ◌≤◌}
use mathlib.Core.Path.{◌≡◌, refl}
use mathlib.Core.List.{List, [], ◌∷◌, ◌++◌}
use native.Mathlib.Nat.{zero-add, add-zero}
use native.Mathlib.Numerals.{add-one}
use native.Mathlib.Omega.{arith}
use lib.ListN.{length, length-append}
use borrow.Author.Tests.{le-leb}
use Rattle.tables.specs.Limits.{batch_limit, frame_limit}
use Rattle.tables.specs.Checks.{output_check, Fine}
use Rattle.tables.specs.declared.refusal.Refusal.{Refusal}
use Rattle.batch_frame.specs.Frames.{kind, end_of, frame_check}
use Rattle.text_digits.specs.Digits.{words_of}
use Rattle.batch_check.specs.Batches.{frames_from, batch_of, check_from, batch_check, plan_check}
use Rattle.batch_frame.proofs.Accepted.{steps_room}
use Rattle.batch_check.proofs.Frames.{frames-on, frames_off, check_on, check_off}
use Rattle.text_first_line.specs.FirstLine.{line_at}
use Rattle.text_printer.specs.Printer.{take_check, stopped, taken, Lines, none, bad, good}
use Rattle.text_printer.proofs.Going.{taken_within, taken_frame, taken_end, taken_below}
use Rattle.text_printer.proofs.Longer.{frame_longer, end_longer}

-- from frame n at a place on, fine frames to the end of the batch, m in all
pub data Walk (b : List ℕ) : ℕ → ℕ → ℕ → Type 0 where
  done : {n at : ℕ} → at ≡ length b → Walk b n at n
  step : {n at m : ℕ} → frame_check b n at ≡ Fine → Walk b (suc n) (end_of b at) m → Walk b n at m

-- one frame more, at the end
walk_longer : (b more : List ℕ) {n at m : ℕ} → Walk b n at m → frame_check (b ++ more) m (length b) ≡ Fine → end_of (b ++ more) (length b) ≡ length (b ++ more)
    → Walk (b ++ more) n at (suc m)
walk_longer b more {n} {at} (done e) f g = step {n = n} {at = at} (rw e f) (done {n = suc n} {at = end_of (b ++ more) at} (rw e g))
walk_longer b more {n} {at} {m} (step e w) f g = step {n = n} {at = at} {m = suc m} (frame_longer b more n at e) (rw (end_longer b more n at e) (walk_longer b more w f g))

walk_fine : (b : List ℕ) {n at m : ℕ} → Walk b n at m → check_from b n at (length b) ≡ Fine
walk_fine b {n} {at} (done e) = check_off b at (omega (arith, e)) n
walk_fine b {n} {at} (step e w) = rw (check_on b at (omega (arith, steps_room b n at e)) n, e) (walk_fine b w)

walk_count : (b : List ℕ) {n at m : ℕ} → Walk b n at m → n + length (frames_from b at (length b)) ≡ m
walk_count b {n} {at} (done e) = rw (frames_off b at (omega (arith, e))) (add-zero n)
walk_count b {n} {at} (step e w) = rw (frames-on b at (omega (arith, steps_room b n at e))) (omega (arith, walk_count b w))

-- what holds of the lines so far
pub record Sofar (n : ℕ) (b kinds : List ℕ) : Type 0 where
  pub walk : Walk b 0 0 n
  pub within : length b ≤ batch_limit
  pub few : n ≤ frame_limit
  pub each : length kinds ≡ n

pub sofar_none : Sofar 0 [] []
sofar_none = record { walk = done refl; within = omega arith; few = omega arith; each = refl }

pub sofar_more : (l : List ℕ) (k : ℕ) {n : ℕ} {b kinds : List ℕ} → take_check l n b ≡ Fine → Sofar n b kinds → Sofar (n + 1) (b ++ words_of l) (kinds ++ (k ∷ []))
sofar_more l k {n} {b} {kinds} e h = record {
  walk = rw (add-one n) (walk_longer b (words_of l) h.walk (taken_frame l n b e) (taken_end l n b e));
  within = taken_within l n b e;
  few = omega (arith, taken_below l n b e);
  each = rw (length-append, h.each) refl;
}

pub lines_taken : {s : List ℕ} {at n : ℕ} {b kinds c more : List ℕ} → Lines s at n b kinds (taken c more) → Sofar n b kinds → Sofar (length more) c more
lines_taken (none h) t = rw t.each t
lines_taken {s} {at} {n} {b} (good h e lines) t = lines_taken lines (sofar_more (line_at s at) (kind (b ++ words_of (line_at s at)) (length b)) e t)

-- no line number is cut: a line that is refused is one of the first 129
pub lines_stopped : {s : List ℕ} {at n : ℕ} {b kinds : List ℕ} {line before : ℕ} {r : Refusal} → Lines s at n b kinds (stopped line before r) → Sofar n b kinds → line ≤ frame_limit + 1
lines_stopped (bad h e) t = omega (arith, t.few)
lines_stopped {s} {at} {n} {b} (good h e lines) t = lines_stopped lines (sofar_more (line_at s at) (kind (b ++ words_of (line_at s at)) (length b)) e t)

module _ {n : ℕ} {b kinds : List ℕ} (t : Sofar n b kinds) where
  pub sofar_accepted : batch_check b ≡ Fine
  unfolding batch_check
  sofar_accepted = rw (le-leb (length b) batch_limit t.within) (walk_fine b t.walk)

  pub sofar_frames : length (batch_of b) ≡ n
  unfolding batch_of
  sofar_frames = rw zero-add at (walk_count b t.walk)

  pub sofar_planned : (words : ℕ) → frame_limit ≤ words → plan_check b words ≡ Fine
  unfolding plan_check output_check
  sofar_planned words h = rw (sofar_accepted, sofar_frames, le-leb n words (omega (arith, t.few, h)))
