-- What is left of the room for what is left of the text decides the answer.
use Prim.Native.Nat.{◌-◌, ◌≤◌}
use mathlib.Core.Path.{◌≡◌}
use lib.ListN.{length}
use Rattle.tables.specs.Checks.{output_check}
use Rattle.text_names.specs.Names.{lines}
use Rattle.text_pattern.specs.Texts.{spell}
use Rattle.text_pattern.specs.Meaning.{steps_from}
use Rattle.text_pattern_out.specs.Rest.{room_check}
use Rattle.text_pattern_out.proofs.room.room_checked.Given as goal

abbrev pub invariant-loop-i : goal.invariant-loop-i
invariant-loop-i l = (l.i ≤ l.n) × (room_check l.list l.p l.room ≡ output_check (length (spell (steps_from (lines l.list) l.p l.i (l.n - l.i)))) l.left)
