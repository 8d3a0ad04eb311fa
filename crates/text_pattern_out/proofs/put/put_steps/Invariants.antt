-- The text of the first i steps stands at the front, all behind it is as it was.
use Prim.Native.Nat.{◌≤◌}
use mathlib.Core.Path.{◌≡◌}
use lib.ListN.{length}
use Rattle.text_names.specs.Names.{lines}
use Rattle.text_pattern_out.specs.Steps.{first_steps, Put}
use Rattle.text_pattern_out.proofs.put.put_steps.Given as goal

abbrev pub invariant-loop-i : goal.invariant-loop-i
invariant-loop-i l = (l.i ≤ l.n) × (length l.out ≡ length l.initial.out) × Put (first_steps (lines l.list) l.p l.i) l.initial.out l.out l.at
