-- The nodes below v stand at their new numbers, whatever the next identity is; all behind is as it was.
use Prim.Native.Nat.{ℕ, ◌≤◌, ◌-◌}
use Rattle.tables.specs.Documents.{doc}
use Rattle.doc_compact.specs.Closing.{with}
use Rattle.doc_compact.proofs.Moves.{ClosedTo}
use Rattle.doc_compact.proofs.closing.close.Given as goal

abbrev pub invariant-loop-v : goal.invariant-loop-v
invariant-loop-v l = (l.v ≤ l.used) × ((next : ℕ) → ClosedTo (with (doc l.initial.rows l.initial.marks l.used) l.initial.ids next) l.initial.places l.v l.rows l.marks l.ids l.places l.m)
