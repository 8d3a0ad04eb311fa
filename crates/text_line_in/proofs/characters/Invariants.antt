-- The characters not yet looked at decide the answer.
use Prim.Native.Nat.{◌≤◌, ◌-◌}
use mathlib.Core.Path.{◌≡◌}
use Rattle.text_line_in.specs.Lines.{character_check}
use Rattle.tables.specs.Checks.{each}
use Rattle.text_line_in.proofs.characters.Given as goal

abbrev pub invariant-loop-i : goal.invariant-loop-i
invariant-loop-i l = (l.i ≤ l.n) × (each (character_check l.s l.line) 0 l.n ≡ each (character_check l.s l.line) l.i (l.n - l.i))
