-- The row shows the words before `from`, and what they carry is at hand.
use Prim.Native.Nat.{◌<◌, ◌-◌}
use mathlib.Core.Path.{◌≡◌}
use lib.ListN.{length}
use Rattle.tables.specs.Limits.{used_limit}
use Rattle.tables.specs.Documents.{doc}
use Rattle.doc_read.specs.Standing.{shown_row, Carried}
use Rattle.doc_read.proofs.row.filled.Given as goal

abbrev pub invariant-loop-from : goal.invariant-loop-from
invariant-loop-from l = (l.from < l.n) × (length l.sets ≡ used_limit) × (length l.carry ≡ used_limit) × Carried l.p l.rows l.from l.used l.carry × (l.row ≡ shown_row l.p l.wanted (doc l.rows l.marks l.used) l.from l.initial.row)

abbrev pub decreases-loop-from : goal.decreases-loop-from
decreases-loop-from l = l.n - l.from
