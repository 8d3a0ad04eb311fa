-- What is left of the text decides where the byte stands.
use Prim.Native.Nat.{◌-◌}
use mathlib.Core.Path.{◌≡◌}
use Rattle.text_parts.specs.Next.{next_from, next}
use Rattle.text_parts.proofs.next_byte.Given as goal

abbrev pub invariant-loop-k : goal.invariant-loop-k
invariant-loop-k l = next l.c l.s l.at ≡ next_from l.c l.s l.k (l.n - l.k)

abbrev pub decreases-loop-k : goal.decreases-loop-k
decreases-loop-k l = l.n - l.k
