-- The last digits are written, and before them go those of what is left.
use mathlib.Core.Path.{◌≡◌}
use lib.ListN.{length}
use Rattle.text_xml_out.proofs.Digits.{Lasting}
use Rattle.text_xml_out.proofs.decimal.put_decimal.Given as goal

abbrev pub invariant-loop-left : goal.invariant-loop-left
invariant-loop-left l = (length l.out ≡ length l.initial.out) × Lasting l.n l.initial.out l.at l.out l.k l.left

abbrev pub decreases-loop-left : goal.decreases-loop-left
decreases-loop-left l = l.left
