-- What is left of the row decides the node.
use Prim.Native.Nat.{◌+◌, ◌-◌}
use mathlib.Core.Path.{◌≡◌}
use Rattle.doc_updates.specs.Asking.{chosen}
use Rattle.verdict_evidence.specs.Finding.{first_from, first_of}
use Rattle.verdict_evidence.proofs.search.first_behind.Given as goal

abbrev pub invariant-loop-k : goal.invariant-loop-k
invariant-loop-k l = first_of (λ u. chosen l.row (l.base + u)) l.n ≡ first_from (λ u. chosen l.row (l.base + u)) l.k (l.n - l.k)
