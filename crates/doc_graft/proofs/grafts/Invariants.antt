-- The tables are those with the copies under the chosen nodes below v.
use Prim.Native.Nat.{◌≤◌, ◌-◌}
use mathlib.Core.Path.{◌≡◌}
use Rattle.tables.specs.Documents.{doc}
use Rattle.selection.specs.Lists.{rising}
use Rattle.doc_updates.specs.Asking.{chosen}
use Rattle.doc_graft.specs.Grafting.{copied_all}
use Rattle.doc_graft.proofs.grafts.Given as goal

abbrev pub invariant-loop-v : goal.invariant-loop-v
invariant-loop-v l = (l.v ≤ l.used) × (doc l.rows l.marks l.at ≡ copied_all l.x (rising (chosen l.row) l.v) (doc l.initial.rows l.initial.marks l.used))
