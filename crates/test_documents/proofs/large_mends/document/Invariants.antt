-- The loop ends: what is left of its range falls.
use Prim.Native.Nat.{◌≤◌, ◌-◌}
use mathlib.Core.Path.{◌≡◌}
use lib.ListN.{length}
use Rattle.test_documents.proofs.large_mends.document.Given as goal

abbrev pub invariant-loop-v : goal.invariant-loop-v
invariant-loop-v l = (l.v ≤ 4096) × (length l.table ≡ length l.initial.table) × (length l.marks ≡ length l.initial.marks) × (length l.ids ≡ length l.initial.ids)
