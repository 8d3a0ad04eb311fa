-- The nodes not yet looked at decide the answer.
use Prim.Native.Nat.{◌≤◌, ◌-◌}
use mathlib.Core.Path.{◌≡◌}
use Rattle.tables.specs.Checks.{each, node_check}
use Rattle.check_tree.proofs.nodes.Given as goal

abbrev pub invariant-loop-v : goal.invariant-loop-v
invariant-loop-v l = (l.v ≤ l.n) × (each (node_check l.t l.table) 0 l.n ≡ each (node_check l.t l.table) l.v (l.n - l.v))
