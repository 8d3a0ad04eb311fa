-- What is left of the text decides.
use Prim.Native.Nat.{◌+◌, ◌≤◌}
use mathlib.Core.Path.{◌≡◌}
use lib.ListN.{drop}
use Rattle.text_pattern.specs.Scan.{after, lasts, longest}
use Rattle.text_pattern_in.proofs.scan.text_checked.Given as goal

abbrev pub invariant-loop-i : goal.invariant-loop-i
invariant-loop-i l = (l.i ≤ l.n) × (after 0 l.s ≡ after l.q (drop l.i l.s)) × (longest l.s ≡ l.i + lasts l.q (drop l.i l.s))
