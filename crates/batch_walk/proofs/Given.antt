-- What a frame that is given says: the batch is within its limit, and the frame is the one that stands there, within the batch.
use Rattle.std.specs.Prelude.{Option, Some, None, Result, Ok, Err}
use Rattle.tables.specs.declared.refusal.Refusal.{Refusal}
use Rattle.tables.specs.Checks.{Checked, Fine}
use Prim.Native.Nat.{ℕ, ◌<◌, ◌≤◌}
use mathlib.Core.Path.{◌≡◌, refl}
use mathlib.Core.Bool.{Bool, true, false, cond}
use mathlib.Core.List.{List}
use native.Mathlib.Omega.{arith}
use lib.Dec.{ltb, leb}
use lib.ListN.{length}
use borrow.Author.Tests.{leb-true}
use Rattle.tables.specs.Refusals.{numbered}
use Rattle.tables.specs.Limits.{frame_limit, batch_limit}
use Rattle.batch_frame.specs.Frames.{frame_check, end_of, frame_of, answered, frame_at}
use Rattle.outcomes.specs.declared.frames.Extent.{Extent}
use Rattle.batch_frame.proofs.Ending.{end_behind}
use Rattle.batch_frame.proofs.Accepted.{frame_below, end_room}
use Rattle.batch_walk.specs.Walking.{answer_of, step_at}

-- f is frame n, and stands at this place of a batch within its limit
pub record Given (b : List ℕ) (n at : ℕ) (f : Extent) : Type 0 where
  pub words : length b ≤ batch_limit
  pub fine : frame_check b n at ≡ Fine
  pub found : f ≡ frame_of b at

pub given : (b : List ℕ) (n at : ℕ) {f : Extent} → step_at b n at ≡ Ok (Some f) → Given b n at f
unfolding step_at frame_at
given b n at {f} e = go (leb (length b) batch_limit) refl (ltb at (length b)) (frame_check b n at) refl e
  where
    go : (s : Bool) → leb (length b) batch_limit ≡ s → (t : Bool) (c : Checked) → frame_check b n at ≡ c
        → cond s (cond t (answer_of (answered c (frame_of b at))) (Ok None)) (Err (record { reason = numbered 10; table = 6; place = batch_limit })) ≡ Ok (Some f)
        → Given b n at f
    go true h true (Ok tt) fine e = record { words = leb-true (length b) batch_limit h; fine = fine; found = cc }
    go true h true (Err r) fine e = let z : ◌≡◌ {A = ℕ} 0 1 = cc in absurd (omega arith)
    go true h false c fine e = let z : ◌≡◌ {A = ℕ} 0 1 = cc in absurd (omega arith)
    go false h t c fine e = let z : ◌≡◌ {A = ℕ} 0 1 = cc in absurd (omega arith)

-- the part from its place to its end lies within the batch
module _ (b : List ℕ) (n at : ℕ) {got : Result (Option Extent) Refusal} {f : Extent} (is : got ≡ step_at b n at) (e : got ≡ Ok (Some f)) where
  here : Given b n at f
  here = given b n at (rw (← is) e)

  next_is : f.next ≡ end_of b at
  unfolding frame_of
  next_is = rw here.found

  pub frame_words : length b ≤ batch_limit
  frame_words = here.words

  pub frame_from : at ≤ f.next
  frame_from = rw next_is (omega (arith, end_behind b at))

  pub frame_room : f.next ≤ length b
  frame_room = rw next_is (end_room b n at here.fine)

  pub frame_number : n < frame_limit
  frame_number = frame_below b n at here.fine
