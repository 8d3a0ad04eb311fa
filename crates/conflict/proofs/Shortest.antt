-- The meeting of a read r and an update p, given as patterns: the shortest way on which both run, and its number of labels.
use Prim.Native.Nat.{ℕ, suc, ◌+◌, ◌<◌, ◌≤◌}
use native.Mathlib.Omega.{arith}
use mathlib.Core.Path.{◌≡◌, sym, ◌∙◌}
use mathlib.Core.Bool.{Bool, false}
use mathlib.Core.List.{List}
use lib.ListN.{length}
use Rattle.tables.specs.Limits.{word_limit}
use Rattle.tables.specs.Words.{steps, label}
use Rattle.selection.specs.Ways.{run, stays}
use Rattle.selection.proofs.Runs.{stays-next}
use Rattle.conflict.specs.Meeting.{meeting_of, fewest_of}
use Rattle.conflict.proofs.Steps.{Within}
use Rattle.conflict.proofs.Meeting.{Labels, Common, length-meeting, fewest_most, meeting_labels, meeting_common, fewest-within, meeting-same}

module _ (r : List ℕ) (below : Bool) (p : List ℕ) (under : Bool) (i j : ℕ) where
  -- `fewest_of` is the number of labels of the way, at most i + j + 1
  pub length-meeting_of : length (meeting_of r below p under i j) ≡ fewest_of r below p under i j
  unfolding meeting_of fewest_of
  length-meeting_of = length-meeting (label r) (label p) (stays r below) (stays p under) i j

  pub fewest_of_most : fewest_of r below p under i j ≤ i + j + 1
  unfolding fewest_of
  fewest_of_most = fewest_most (label r) (label p) (stays r below) (stays p under) i j

  -- its labels are labels that nodes may have
  pub meeting_of_labels : ((k : ℕ) → label r k < word_limit) → ((k : ℕ) → label p k < word_limit) → Labels (meeting_of r below p under i j)
  unfolding meeting_of
  meeting_of_labels h k = meeting_labels (label r) (label p) (stays r below) (stays p under) h k i j

  -- where there is one, both run on it
  pub meeting_of_common : 0 < fewest_of r below p under i j → Common (run r below i) (run p under j) (meeting_of r below p under i j)
  unfolding meeting_of fewest_of run
  meeting_of_common h = meeting_common (label r) (label p) (stays r below) (stays p under) i j h

  -- where both run on some way, there is one, and it is no longer
  pub fewest_of-within : (w : List ℕ) → Common (run r below i) (run p under j) w → Within (fewest_of r below p under i j) (length w)
  unfolding fewest_of run
  fewest_of-within w c = fewest-within (label r) (label p) (stays r below) (stays p under) i j w c

  -- where there is none, both run on no way
  pub fewest_of_none : (w : List ℕ) → fewest_of r below p under i j ≡ 0 → Common (run r below i) (run p under j) w → ⊥
  fewest_of_none w e c = omega (arith, fewest_of-within w c)

-- before the read's last step it is the same, whether anything below that step counts or not
pub meeting_of-same : (r : List ℕ) (below : Bool) (p : List ℕ) (under : Bool) (i j : ℕ) → suc i < steps r → meeting_of r below p under i j ≡ meeting_of r false p under i j
unfolding meeting_of
meeting_of-same r below p under i j h =
    meeting-same (label r) (label p) (stays r below) (stays r false) (stays p under) i
    (λ k l. let inside : suc k < steps r = omega arith in stays-next r below k inside ∙ sym (stays-next r false k inside))
    j
