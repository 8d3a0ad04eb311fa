-- Line i begins there.
use Prim.Native.Nat.{◌≤◌}
use Rattle.text_pattern_out.specs.Lookup.{NameFrom}
use Rattle.text_pattern_out.proofs.list.name_from.Given as goal

abbrev pub invariant-loop-i : goal.invariant-loop-i
invariant-loop-i l = (l._i ≤ l.k) × NameFrom l.list l._i l.from
