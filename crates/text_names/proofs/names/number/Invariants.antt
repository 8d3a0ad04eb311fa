-- The lines that are left decide.
use Prim.Native.Nat.{◌+◌, ◌-◌, ◌≤◌}
use mathlib.Core.Path.{◌≡◌}
use lib.ListN.{drop}
use Rattle.text_names.specs.Names.{lines, number_of, place_from}
use Rattle.text_names.proofs.names.number.Given as goal

abbrev pub invariant-loop-from : goal.invariant-loop-from
invariant-loop-from l = (l.from ≤ l.n) × (l.before ≤ l.from) × (number_of (lines l.list) l.word ≡ place_from (l.before + 1) (lines (drop l.from l.list)) l.word)

abbrev pub decreases-loop-from : goal.decreases-loop-from
decreases-loop-from l = l.n - l.from
