-- The words of the copy's first k nodes, then the free words as they were.
use Prim.Native.Nat.{◌+◌, ◌*◌, ◌≤◌, ◌-◌}
use mathlib.Core.Path.{◌≡◌}
use mathlib.Core.List.{◌++◌}
use lib.ListN.{length, drop}
use Rattle.selection.specs.Operations.{copy_words}
use Rattle.doc_copy.specs.Copying.{held}
use Rattle.doc_copy.proofs.copier.Given as goal

abbrev pub invariant-loop-k : goal.invariant-loop-k
invariant-loop-k l = (l.k ≤ l.n) × (length l.free ≡ length l.initial.free) × (l.free ≡ held (copy_words l.x l.q l.base l.k) ++ drop (2 * l.k) l.initial.free)
