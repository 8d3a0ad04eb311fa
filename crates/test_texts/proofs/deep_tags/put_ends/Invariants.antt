-- The loop ends: what is left of its range falls.
use mathlib.Core.Path.{◌≡◌}
use lib.ListN.{length}
use Rattle.test_texts.proofs.deep_tags.put_ends.Given as goal

abbrev pub invariant-loop-left : goal.invariant-loop-left
invariant-loop-left l = length l.out ≡ length l.initial.out

abbrev pub decreases-loop-left : goal.decreases-loop-left
decreases-loop-left l = l.left
