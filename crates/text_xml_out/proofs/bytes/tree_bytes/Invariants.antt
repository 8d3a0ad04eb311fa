-- The nodes before v are added up.
use Prim.Native.Nat.{◌≤◌}
use mathlib.Core.Path.{◌≡◌}
use Rattle.text_xml_out.proofs.Sizes.{bytes_to}
use Rattle.text_xml_out.proofs.bytes.tree_bytes.Given as goal

abbrev pub invariant-loop-v : goal.invariant-loop-v
invariant-loop-v l = (l.v ≤ l.n) × (l.bytes ≡ bytes_to l.t l.v)
