-- Counting the chosen nodes of a row, one a turn.
use Prim.Native.Nat.{ℕ, ◌+◌}
use mathlib.Core.Path.{◌≡◌, ◌∙◌}
use mathlib.Core.List.{List}
use lib.ListN.{get_or}
use Rattle.selection.specs.Lists.{count}
use Rattle.doc_updates.specs.Asking.{chosen}
use Rattle.doc_updates.proofs.Counting.{count-on}
use Rattle.doc_room.specs.Ticking.{ticked}

-- a row's byte of 1 counts
pub chosen_on : (row : List ℕ) (v : ℕ) {n b one : ℕ} → n ≡ count (chosen row) v → b ≡ get_or row v 0 → one ≡ ticked b → n + one ≡ count (chosen row) (v + 1)
unfolding chosen ticked
chosen_on row v e q w = count-on (chosen row) v e (w ∙ rw q)
