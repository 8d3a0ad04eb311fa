-- The frames of a batch one after another: the bound on their number is never met, and each of an accepted batch is fit.
use Prim.Native.Nat.{ℕ, zero, suc, ◌+◌, ◌*◌, ◌<◌, ◌≤◌}
use mathlib.Core.Path.{◌≡◌, refl, ◌∙◌}
use mathlib.Core.Bool.{Bool, true, false, cond}
use mathlib.Core.List.{List, [], ◌∷◌}
use native.Mathlib.Omega.{arith}
use lib.Dec.{ltb, leb}
use lib.ListN.{length}
use borrow.Author.Tests.{ne_eqb, lt-ltb, le-ltb}
use Rattle.tables.specs.Limits.{batch_limit}
use Rattle.tables.specs.Checks.{◌then◌, test, refuse, Fine}
use Rattle.tables.proofs.Accepted.{then_first, then_second}
use Rattle.tables.specs.Words.{Bits16}
use Rattle.batch_parts.specs.Parts.{count}
use Rattle.batch_frame.specs.Frames.{kind, tree_at, end_of, frame_check}
use Rattle.conflict.specs.Conflict.{Update}
use Rattle.order.specs.Model.{Fits}
use Rattle.order.specs.Frames.{Frame, At, here, there}
use Rattle.order.specs.Fitting.{FitFrame}
use Rattle.order.proofs.Places.{at_below}
use Rattle.batch_check.specs.Batches.{meaning, frames_from, batch_of, check_from, batch_check}
use Rattle.batch_frame.proofs.Ending.{end_behind}
use Rattle.batch_check.proofs.Accepted.{frame_fit}

-- where the code finds its end
module _ (b : List ℕ) (at : ℕ) {k e : ℕ} (is : k ≡ kind b at) (steps : e ≡ tree_at at (count b (at + 1))) where
  pub end_other : (k ≡ 2 → ⊥) → e ≡ end_of b at
  unfolding end_of
  end_other n = rw (← is, ne_eqb k 2 n) steps

  pub end_insert : k ≡ 2 → {m : ℕ} → m ≡ count b e → e + 1 + 2 * m ≡ end_of b at
  unfolding end_of
  end_insert two m = rw (← is, two, m, steps)

module _ (b : List ℕ) where
  -- as many frames as there are words left are enough
  frames_enough : (at m n : ℕ) → length b ≤ at + m → length b ≤ at + n → frames_from b at m ≡ frames_from b at n
  unfolding frames_from
  frames_enough at zero zero h l = refl
  frames_enough at zero (suc n) h l = rw (le-ltb at (length b) (omega arith))
  frames_enough at (suc m) zero h l = rw (le-ltb at (length b) (omega arith))
  frames_enough at (suc m) (suc n) h l =
      rw (frames_enough (end_of b at) m n (omega (arith, end_behind b at)) (omega (arith, end_behind b at)))

  check_enough : (k at m n : ℕ) → length b ≤ at + m → length b ≤ at + n → check_from b k at m ≡ check_from b k at n
  unfolding check_from
  check_enough k at zero zero h l = refl
  check_enough k at zero (suc n) h l = rw (le-ltb at (length b) (omega arith))
  check_enough k at (suc m) zero h l = rw (le-ltb at (length b) (omega arith))
  check_enough k at (suc m) (suc n) h l =
      rw (check_enough (suc k) (end_of b at) m n (omega (arith, end_behind b at)) (omega (arith, end_behind b at)))

  -- a frame and those behind it, or none
  module _ (at : ℕ) (h : at < length b) where
    pub frames-on : frames_from b at (length b) ≡ meaning b at ∷ frames_from b (end_of b at) (length b)
    unfolding frames_from
    frames-on = frames_enough at (length b) (suc (length b)) (omega arith) (omega arith) ∙ rw (lt-ltb at (length b) h)

    pub check_on : (k : ℕ) → check_from b k at (length b) ≡ (frame_check b k at then check_from b (suc k) (end_of b at) (length b))
    unfolding check_from
    check_on k = check_enough k at (length b) (suc (length b)) (omega arith) (omega arith) ∙ rw (lt-ltb at (length b) h)

  module _ (at : ℕ) (h : length b ≤ at) where
    pub frames_off : frames_from b at (length b) ≡ []
    unfolding frames_from
    frames_off = frames_enough at (length b) 0 (omega arith) (omega arith)

    pub check_off : (k : ℕ) → check_from b k at (length b) ≡ Fine
    unfolding check_from
    check_off k = check_enough k at (length b) 0 (omega arith) (omega arith)

-- what holds of each frame that meets no refusal holds of each frame of a batch that meets none
module _ {Fit : Frame (List ℕ) Update → Type 0} where
  fits_none : Fits Fit []
  fits_none = record { fit = λ p. absurd (omega (arith, at_below p)) }

  fits_one : {f : Frame (List ℕ) Update} {l : List (Frame (List ℕ) Update)} → Fit f → Fits Fit l → Fits Fit (f ∷ l)
  fits_one {f} {l} first rest = record { fit = go }
    where
      go : {k : ℕ} {g : Frame (List ℕ) Update} → At (f ∷ l) k g → Fit g
      go here = first
      go (there p) = rest.fit p

  module _ (b : List ℕ) (one : (n at : ℕ) → frame_check b n at ≡ Fine → Fit (meaning b at)) where
    fits_from : (n at most : ℕ) → check_from b n at most ≡ Fine → Fits Fit (frames_from b at most)
    unfolding frames_from check_from
    fits_from n at zero e = fits_none
    fits_from n at (suc most) e = go (ltb at (length b)) e (fits_from (suc n) (end_of b at) most)
      where
        go : (t : Bool) → cond t (frame_check b n at then check_from b (suc n) (end_of b at) most) Fine ≡ Fine
            → (check_from b (suc n) (end_of b at) most ≡ Fine → Fits Fit (frames_from b (end_of b at) most))
            → Fits Fit (cond t (meaning b at ∷ frames_from b (end_of b at) most) [])
        go true e rest = fits_one (one n at (then_first (frame_check b n at) _ e)) (rest (then_second (frame_check b n at) _ e))
        go false e rest = fits_none

pub accepted_frames : (b : List ℕ) → batch_check b ≡ Fine → check_from b 0 0 (length b) ≡ Fine
unfolding batch_check
accepted_frames b e = then_second (test (leb (length b) batch_limit) (refuse 10 6 batch_limit)) _ e

pub accepted_each : {Fit : Frame (List ℕ) Update → Type 0} (b : List ℕ) → ((n at : ℕ) → frame_check b n at ≡ Fine → Fit (meaning b at)) → batch_check b ≡ Fine → Fits Fit (batch_of b)
unfolding batch_of
accepted_each b one e = fits_from b one 0 0 (length b) (accepted_frames b e)

-- each frame of an accepted batch is fit
pub accepted_fits : (b : List ℕ) → Bits16 b → batch_check b ≡ Fine → Fits FitFrame (batch_of b)
accepted_fits b words e = accepted_each b (λ n at fine. frame_fit b n at fine words) e
