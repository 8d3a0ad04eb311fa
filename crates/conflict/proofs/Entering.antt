-- The entering way is the shortest way to an update point of p at which r is in a state, below n, from which it enters the inserted tree x.
use Prim.Native.Nat.{ℕ, zero, suc, ◌+◌, ◌<◌, ◌≤◌}
use native.Mathlib.Nat.{not-suc-le-zero}
use native.Mathlib.Omega.{arith}
use mathlib.Core.Path.{◌≡◌}
use mathlib.Core.Bool.{true, false, cond}
use mathlib.Core.List.{List, []}
use lib.ListN.{length}
use Rattle.tables.specs.Limits.{word_limit}
use Rattle.tables.specs.Words.{label}
use Rattle.selection.specs.Ways.{run, last}
use Rattle.selection.proofs.Lists.{below_suc}
use Rattle.conflict.specs.Meeting.{meeting_of}
use Rattle.conflict.specs.Crossing.{enters, entering}
use Rattle.conflict.proofs.Steps.{Within, least_first, least_second, cond_keeps, shorter_keeps, length-shorter}
use Rattle.conflict.proofs.Meeting.{Labels, none, Common}
use Rattle.conflict.proofs.Shortest.{length-meeting_of, fewest_of_most, meeting_of_labels, meeting_of_common, fewest_of-within}

-- a way to an update point of p, on which r comes to a state below n from which it enters x
pub record Entry (r p x : List ℕ) (n : ℕ) (w : List ℕ) : Type 0 where
  pub state : ℕ
  pub below : state < n
  pub goes_on : enters r x state ≡ true
  pub common : Common (run r false state) (run p false (last p)) w

module _ (r p x : List ℕ) where
  -- where the entering way is not empty, it is one
  entry_more : {n : ℕ} {w : List ℕ} → Entry r p x n w → Entry r p x (suc n) w
  entry_more e = record { state = e.state; below = omega arith; goes_on = e.goes_on; common = e.common }

  pub entering_entry : (n : ℕ) → 0 < length (entering r p x n) → Entry r p x n (entering r p x n)
  unfolding entering
  entering_entry zero = λ h. absurd (not-suc-le-zero h)
  entering_entry (suc i) =
      shorter_keeps (λ w. 0 < length w → Entry r p x (suc i) w) _ _
      (λ h. entry_more (entering_entry i h))
      (cond_keeps (λ w. 0 < length w → Entry r p x (suc i) w) (enters r x i)
      (λ e h.
      record {
        state = i;
        below = omega arith;
        goes_on = e;
        common = meeting_of_common r false p false i (last p) (rw (length-meeting_of r false p false i (last p)) at h);
      })
      (λ h. absurd (not-suc-le-zero h)))

  -- where there is one, the entering way is not empty, and no longer
  state_within : (i : ℕ) (w : List ℕ) → enters r x i ≡ true → Common (run r false i) (run p false (last p)) w
      → Within (length (cond (enters r x i) (meeting_of r false p false i (last p)) [])) (length w)
  state_within i w e c = rw (e, length-meeting_of r false p false i (last p)) (fewest_of-within r false p false i (last p) w c)

  pub entering-within : (n : ℕ) (w : List ℕ) → Entry r p x n w → Within (length (entering r p x n)) (length w)
  unfolding entering
  entering-within zero w e = absurd (not-suc-le-zero e.below)
  entering-within (suc i) w e =
      rw length-shorter
      (below_suc e.state i e.below
      (λ less. least_first _ _ (entering-within i w (record { state = e.state; below = less; goes_on = e.goes_on; common = e.common })))
      (λ same. least_second _ _ (rw (← same) (state_within e.state w e.goes_on e.common))))

  -- it has at most n + last p labels
  pub entering_most : (n : ℕ) → length (entering r p x n) ≤ n + last p
  unfolding entering
  entering_most zero = omega arith
  entering_most (suc i) =
      let short : length (meeting_of r false p false i (last p)) ≤ suc i + last p =
      rw (length-meeting_of r false p false i (last p)) (omega (arith, fewest_of_most r false p false i (last p))) in
      shorter_keeps (λ w. length w ≤ suc i + last p) _ _
      (omega (arith, entering_most i))
      (cond_keeps (λ w. length w ≤ suc i + last p) (enters r x i) {y = []} (λ e. short) (omega arith))

  -- each one that a node may have
  pub entering_labels : ((k : ℕ) → label r k < word_limit) → ((k : ℕ) → label p k < word_limit) → (n : ℕ) → Labels (entering r p x n)
  unfolding entering
  entering_labels names others zero = none
  entering_labels names others (suc i) =
      shorter_keeps Labels _ _ (entering_labels names others i)
      (cond_keeps Labels (enters r x i) (λ e. meeting_of_labels r false p false i (last p) names others) none)
