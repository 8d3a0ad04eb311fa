-- The branches of the code, held against those of the definitions.
use Rattle.std.specs.Prelude.{Option, Some, None, Result, Ok, Err}
use Prim.Native.Nat.{ℕ, ◌+◌, ◌-◌, ◌<◌, ◌≤◌}
use mathlib.Core.Path.{◌≡◌}
use mathlib.Core.List.{List}
use lib.ListN.{length}
use borrow.Author.Tests.{lt-ltb, le-ltb, le-leb, lt-leb}
use Rattle.tables.specs.Limits.{batch_limit}
use Rattle.tables.specs.Refusals.{numbered}
use Rattle.tables.specs.declared.refusal.Refusal.{Refusal}
use Rattle.batch_parts.specs.Parts.{part}
use Rattle.batch_frame.specs.Frames.{frame_at}
use Rattle.outcomes.specs.declared.frames.Extent.{Extent}
use Rattle.batch_walk.specs.Walking.{answer_of, step_at, place_after, number_after, part_at}

module _ (b : List ℕ) (n at : ℕ) {got : Result Extent Refusal} (is : got ≡ frame_at b n at) where
  pub framed_refused : {r : Refusal} → got ≡ Err r → Err r ≡ answer_of (frame_at b n at)
  framed_refused e = rw (← is, e)

  pub framed_found : {f : Extent} → got ≡ Ok f → Ok (Some f) ≡ answer_of (frame_at b n at)
  framed_found e = rw (← is, e)

module _ (b : List ℕ) (n at : ℕ) where
  pub step_long : batch_limit < length b → Err (record { reason = numbered 10; table = 6; place = batch_limit }) ≡ step_at b n at
  unfolding step_at
  step_long h = rw (lt-leb (length b) batch_limit h)

  pub step-over : length b ≤ batch_limit → length b ≤ at → Ok None ≡ step_at b n at
  unfolding step_at
  step-over h l = rw (le-leb (length b) batch_limit h, le-ltb at (length b) l)

  pub step_frame : {a : Result (Option Extent) Refusal} → length b ≤ batch_limit → at < length b → a ≡ answer_of (frame_at b n at) → a ≡ step_at b n at
  unfolding step_at
  step_frame h l a = rw (le-leb (length b) batch_limit h, lt-ltb at (length b) l) a

module _ (b : List ℕ) (n at : ℕ) {got : Result (Option Extent) Refusal} (is : got ≡ step_at b n at) where
  pub place_refused : {r : Refusal} → got ≡ Err r → at ≡ place_after b n at
  unfolding place_after
  place_refused e = rw (← is, e)

  pub place_frame : {f : Extent} → got ≡ Ok (Some f) → f.next ≡ place_after b n at
  unfolding place_after
  place_frame e = rw (← is, e)

  pub place-over : got ≡ Ok None → at ≡ place_after b n at
  unfolding place_after
  place-over e = rw (← is, e)

  pub number_refused : {r : Refusal} → got ≡ Err r → n ≡ number_after b n at
  unfolding number_after
  number_refused e = rw (← is, e)

  pub number_frame : {f : Extent} → got ≡ Ok (Some f) → n + 1 ≡ number_after b n at
  unfolding number_after
  number_frame e = rw (← is, e)

  pub number-over : got ≡ Ok None → n ≡ number_after b n at
  unfolding number_after
  number-over e = rw (← is, e)

  pub part_frame : {f : Extent} → got ≡ Ok (Some f) → part b at (f.next - at) ≡ part_at b n at
  unfolding part_at
  part_frame e = rw (place_frame e)
