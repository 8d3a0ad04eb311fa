-- The rows keep their lengths.
use mathlib.Core.Path.{◌≡◌}
use lib.ListN.{length}
use Rattle.test_vectors.proofs.script.each.Given as goal

abbrev pub invariant-loop-at : goal.invariant-loop-at
invariant-loop-at l = (length l.r ≡ length l.initial.r) × (length l.p ≡ length l.initial.p) × (length l.x ≡ length l.initial.x) × (length l.t ≡ length l.initial.t) × (length l.l ≡ length l.initial.l) × (length l.m ≡ length l.initial.m) × (length l.y ≡ length l.initial.y) × (length l.i ≡ length l.initial.i)
