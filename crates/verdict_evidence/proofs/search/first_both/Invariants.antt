-- What is left of the rows decides the node.
use Prim.Native.Nat.{◌-◌}
use mathlib.Core.Path.{◌≡◌}
use mathlib.Core.Bool.{◌&&◌}
use Rattle.doc_updates.specs.Asking.{chosen}
use Rattle.verdict_evidence.specs.Finding.{first_from, first_of}
use Rattle.verdict_evidence.proofs.search.first_both.Given as goal

abbrev pub invariant-loop-v : goal.invariant-loop-v
invariant-loop-v l = first_of (λ u. chosen l.row u && chosen l.cut u) l.n ≡ first_from (λ u. chosen l.row u && chosen l.cut u) l.v (l.n - l.v)
