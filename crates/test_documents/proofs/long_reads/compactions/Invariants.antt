-- The loop ends: what is left of its range falls.
use Prim.Native.Nat.{◌≤◌, ◌-◌}
use Rattle.test_documents.proofs.long_reads.compactions.Given as goal

abbrev pub invariant-loop-d : goal.invariant-loop-d
invariant-loop-d l = l.d ≤ 12
