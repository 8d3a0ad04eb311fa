-- The bytes below i are written, the others as they were.
use Prim.Native.Nat.{◌≤◌}
use mathlib.Core.Path.{◌≡◌}
use mathlib.Core.List.{◌++◌}
use lib.ListN.{drop}
use Rattle.selection.specs.Lists.{tab}
use Rattle.text_digits.specs.Digits.{byte_at}
use Rattle.text_line_out.proofs.fill_digits.Given as goal

abbrev pub invariant-loop-i : goal.invariant-loop-i
invariant-loop-i l = (l.i ≤ l.n) × (l.out ≡ tab (byte_at l.ws) l.i ++ drop l.i l.initial.out)
