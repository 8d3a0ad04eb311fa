-- The steps not yet looked at decide the answer.
use Prim.Native.Nat.{◌-◌, ◌≤◌}
use mathlib.Core.Path.{◌≡◌}
use Rattle.tables.specs.Checks.{each}
use Rattle.text_names.specs.Names.{lines}
use Rattle.text_pattern_out.specs.Writing.{number_check}
use Rattle.text_pattern_out.proofs.check.numbers.Given as goal

abbrev pub invariant-loop-i : goal.invariant-loop-i
invariant-loop-i l = (l.i ≤ l.n) × (each (number_check (lines l.list) l.p) 0 l.n ≡ each (number_check (lines l.list) l.p) l.i (l.n - l.i))
