-- A walk stays at a bad frame and at the end, and stands behind each frame that it gives.
use Rattle.std.specs.Prelude.{Some, None, Ok, Err}
use Prim.Native.Nat.{ℕ, ◌+◌, ◌-◌, ◌<◌}
use mathlib.Core.Path.{◌≡◌, refl, sym, ◌∙◌, ap}
use mathlib.Core.List.{List}
use lib.ListN.{length}
use borrow.Author.Tests.{lt-leb}
use Rattle.tables.specs.Limits.{batch_limit}
use Rattle.tables.specs.Refusals.{numbered}
use Rattle.tables.specs.declared.refusal.Refusal.{Refusal}
use Rattle.batch_parts.specs.Parts.{part}
use Rattle.batch_frame.specs.Frames.{end_of, frame_of}
use Rattle.outcomes.specs.declared.frames.Extent.{Extent}
use Rattle.batch_walk.specs.Walking.{step_at, place_after, number_after, part_at}
use Rattle.batch_walk.proofs.Given.{given}
use Rattle.batch_walk.proofs.Branches.{place_refused, place_frame, place-over, number_refused, number_frame, number-over}

module _ (b : List ℕ) (n at : ℕ) where
  -- over 16,384 words 10 at every call
  pub long_always : batch_limit < length b → step_at b n at ≡ Err (record { reason = numbered 10; table = 6; place = batch_limit })
  unfolding step_at
  long_always h = rw (lt-leb (length b) batch_limit h)

  -- behind a bad frame, as at the end, every later call gives the same
  pub refused_stays : {r : Refusal} → step_at b n at ≡ Err r → step_at b (number_after b n at) (place_after b n at) ≡ Err r
  refused_stays e = rw (← number_refused b n at refl e, ← place_refused b n at refl e) e

  pub over-stays : step_at b n at ≡ Ok None → step_at b (number_after b n at) (place_after b n at) ≡ Ok None
  over-stays e = rw (← number-over b n at refl e, ← place-over b n at refl e) e

  -- a frame that is given is the one that stands there, and the walker then stands at its end, with the next number
  module _ {f : Extent} (e : step_at b n at ≡ Ok (Some f)) where
    pub frame_is : f ≡ frame_of b at
    frame_is = (given b n at e).found

    pub frame_place : place_after b n at ≡ end_of b at
    unfolding frame_of
    frame_place = sym (place_frame b n at refl e) ∙ ap (λ (g : Extent). g.next) frame_is

    pub frame_next : number_after b n at ≡ n + 1
    frame_next = sym (number_frame b n at refl e)

    -- its part is all that stands from its place to its end
    pub frame_part : part_at b n at ≡ part b at (end_of b at - at)
    unfolding part_at
    frame_part = rw frame_place
