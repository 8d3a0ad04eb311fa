-- Bytes and marks below v are struck, whichever pattern the row was made by; the others are as they were.
use Prim.Native.Nat.{ℕ, ◌≤◌, ◌-◌}
use mathlib.Core.Path.{◌≡◌}
use mathlib.Core.List.{List}
use lib.ListN.{length}
use Rattle.tables.specs.Documents.{doc}
use Rattle.doc_updates.specs.Asking.{Chosen}
use Rattle.doc_delete.proofs.Hits.{StruckTo}
use Rattle.doc_delete.proofs.striking.strike.Given as goal

abbrev pub invariant-loop-v : goal.invariant-loop-v
invariant-loop-v l = (l.v ≤ l.used) × (l.n ≤ l.v) × (length l.row ≡ length l.initial.row) × (length l.marks ≡ length l.initial.marks) × ((p : List ℕ) → Chosen p (doc l.rows l.initial.marks l.used) l.initial.row → StruckTo p (doc l.rows l.initial.marks l.used) l.initial.row l.v l.row l.marks l.n)
