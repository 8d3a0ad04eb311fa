-- The lines counted, and those from there on, are all the lines.
use Prim.Native.Nat.{◌+◌, ◌-◌, ◌≤◌}
use mathlib.Core.Path.{◌≡◌}
use lib.ListN.{length, drop}
use Rattle.text_names.specs.Names.{lines}
use Rattle.text_pattern_out.proofs.list.names.Given as goal

abbrev pub invariant-loop-from : goal.invariant-loop-from
invariant-loop-from l = (l.from ≤ l.n) × (l.count ≤ l.from) × (length (lines l.list) ≡ l.count + length (lines (drop l.from l.list)))

abbrev pub decreases-loop-from : goal.decreases-loop-from
decreases-loop-from l = l.n - l.from
