-- The nodes before v have their word and their answers.
use Prim.Native.Nat.{pred, ◌+◌, ◌<◌, ◌≤◌, ◌-◌}
use mathlib.Core.Path.{◌≡◌}
use mathlib.Core.List.{◌++◌}
use lib.ListN.{length, drop, get_or}
use Rattle.tables.specs.Documents.{doc}
use Rattle.selection.specs.Lists.{tab}
use Rattle.pattern_set.specs.Sets.{word_steps}
use Rattle.doc_read.specs.Standing.{shown_byte, Held}
use Rattle.doc_read.proofs.pass.passed.Given as goal

abbrev pub invariant-loop-v : goal.invariant-loop-v
invariant-loop-v l = (l.v ≤ l.used) × Held l.p l.rows l.from l.v l.sets × (length l.sets ≡ length l.initial.sets) × (0 < l.v → l.own ≡ get_or l.sets (pred l.v) 0) × (l.row ≡ tab (shown_byte l.p l.wanted (doc l.rows l.marks l.used) (l.from + word_steps)) l.v ++ drop l.v l.initial.row)
