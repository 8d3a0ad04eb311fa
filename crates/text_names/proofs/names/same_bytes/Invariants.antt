-- The lengths, then the bytes that are left decide.
use Prim.Native.Nat.{◌≤◌}
use mathlib.Core.Path.{◌≡◌}
use lib.ListN.{drop}
use Rattle.text_names.specs.Names.{same}
use Rattle.text_names.proofs.names.same_bytes.Given as goal

abbrev pub invariant-loop-i : goal.invariant-loop-i
invariant-loop-i l = (l.i ≤ l.n) × (same l.a l.b ≡ same (drop l.i l.a) (drop l.i l.b))
