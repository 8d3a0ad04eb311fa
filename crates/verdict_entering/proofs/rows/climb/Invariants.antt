-- The nodes, from the last down to the root's children.
use Prim.Native.Nat.{◌≤◌}
use mathlib.Core.Path.{◌≡◌}
use lib.ListN.{length}
use Rattle.tables.specs.Words.{nodes}
use Rattle.verdict_entering.specs.Climbing.{Climbed}
use Rattle.verdict_entering.proofs.rows.climb.Given as goal

abbrev pub invariant-loop-v : goal.invariant-loop-v
invariant-loop-v l = (l.v ≤ nodes l.x) × (length l.own ≡ length l.initial.own) × Climbed l.r l.x l.k l.above l.v l.own
