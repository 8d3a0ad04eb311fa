-- The bytes that are left decide.
use Prim.Native.Nat.{◌≤◌, ◌<◌}
use mathlib.Core.Path.{◌≡◌}
use lib.ListN.{drop}
use Rattle.text_names.specs.Entries.{slots, slot_of}
use Rattle.text_names.proofs.names.slot.Given as goal

abbrev pub invariant-loop-i : goal.invariant-loop-i
invariant-loop-i l = (l.i ≤ l.n) × (l.h < slots) × (slot_of 0 l.s ≡ slot_of l.h (drop l.i l.s))
