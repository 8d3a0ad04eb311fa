-- Before each line, what the lines from here on end in is what all end in.
use Prim.Native.Nat.{◌-◌}
use lib.ListN.{length}
use Rattle.text_printer.proofs.Going.{Going}
use Rattle.text_printer.proofs.read_lines.Given as goal

abbrev pub invariant-loop-at : goal.invariant-loop-at
invariant-loop-at l = Going l.s l.initial.batch l.initial.kinds l.batch l.kinds l.at l.n l.used

abbrev pub decreases-loop-at : goal.decreases-loop-at
decreases-loop-at l = length l.s - l.at
