-- The mended marks of the first v nodes stand in the row, and their changes are counted.
use Prim.Native.Nat.{◌-◌, ◌≤◌}
use Rattle.tables.specs.Documents.{doc}
use Rattle.doc_mend.proofs.Passing.{CountedTo}
use Rattle.doc_mend.proofs.marks.count.Given as goal

abbrev pub invariant-loop-v : goal.invariant-loop-v
invariant-loop-v l = CountedTo (doc l.t l.m l.used) l.initial.row l.v l.row l.n × (l.v ≤ l.used)
