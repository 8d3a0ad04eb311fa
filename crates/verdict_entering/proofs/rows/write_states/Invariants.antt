-- The states, from the last down.
use Prim.Native.Nat.{◌≤◌}
use mathlib.Core.Path.{◌≡◌}
use lib.ListN.{length}
use Rattle.tables.specs.Words.{nodes}
use Rattle.selection.specs.Ways.{last}
use Rattle.verdict_entering.specs.Climbing.{Clear, Reached, Written}
use Rattle.verdict_entering.proofs.rows.write_states.Given as goal

abbrev pub invariant-loop-k : goal.invariant-loop-k
invariant-loop-k l = (l.k ≤ last l.r) × (length l.above ≡ length l.initial.above) × (length l.own ≡ length l.initial.own) × (length l.states ≡ length l.initial.states) × Reached l.r l.x l.k l.above × Clear (nodes l.x) l.own × Written l.r l.x l.k l.states
