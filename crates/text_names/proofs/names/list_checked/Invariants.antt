-- The entries that are left decide.
use Prim.Native.Nat.{◌-◌, ◌≤◌}
use mathlib.Core.Bool.{true}
use mathlib.Core.Path.{◌≡◌}
use lib.ListN.{length, take}
use Rattle.tables.specs.Checks.{each}
use Rattle.text_names.specs.Names.{lines, ended, entries, entry_check, list_check}
use Rattle.text_names.proofs.Slots.{Marked}
use Rattle.text_names.proofs.names.list_checked.Given as goal

abbrev pub invariant-loop-from : goal.invariant-loop-from
invariant-loop-from l = (l.from ≤ l.n) × (l.k ≤ l.from) × (ended (take l.from l.list) ≡ true) × (length (lines (take l.from l.list)) ≡ l.k) × (list_check l.list ≡ each (entry_check l.list) l.k (entries l.list - l.k)) × Marked (lines (take l.from l.list)) l.marks

abbrev pub decreases-loop-from : goal.decreases-loop-from
decreases-loop-from l = l.n - l.from
