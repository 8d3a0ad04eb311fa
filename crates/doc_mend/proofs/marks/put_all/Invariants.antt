-- The mended marks of the first v nodes stand in the document, and their changes in the list.
use Prim.Native.Nat.{◌-◌, ◌≤◌}
use Rattle.tables.specs.Documents.{doc}
use Rattle.doc_mend.proofs.Passing.{PutTo}
use Rattle.doc_mend.proofs.marks.put_all.Given as goal

abbrev pub invariant-loop-v : goal.invariant-loop-v
invariant-loop-v l = PutTo (doc l.t l.initial.marks l.used) l.initial.list l.v l.marks l.list l.at × (l.v ≤ l.used)
