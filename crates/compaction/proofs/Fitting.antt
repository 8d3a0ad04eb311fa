-- The room that a compaction gives back is used by later inserts.
use Rattle.tables.specs.Checks.{Fine}
use Prim.Native.Nat.{ℕ, ◌+◌, ◌≤◌}
use mathlib.Core.Path.{◌≡◌}
use mathlib.Core.Bool.{true}
use mathlib.Core.List.{List}
use mathlib.Core.Logic.{◌↔◌}
use native.Mathlib.Omega.{arith}
use borrow.Author.Tests.{leb-true, le-leb}
use Rattle.identities.specs.Documents.{Document, SoundDocument}
use Rattle.identities.specs.Checks.{whole_check}
use Rattle.identities.specs.Updates.{written, room_of, fits_in}
use Rattle.identities.specs.Compaction.{dropped, compacted}
use Rattle.compaction.proofs.Closing.{compacted_gains}
use Rattle.compaction.proofs.Keeping.{compacted_sound}
use Rattle.compaction.proofs.Checking.{accepted_room}
use Rattle.compaction.proofs.Compacting.{compacted_alike}
use Rattle.compaction.proofs.Updating.{same-written}

module _ {d : Document} (sound : SoundDocument d) (fine : whole_check d ≡ Fine) (p x : List ℕ) where
  -- an insert fits after a compaction exactly if it lacked no more room before it than nodes were dropped
  pub compacted-fits : (fits_in p x (compacted d) ≡ true) ↔ (d.tables.used + written p x d.tables ≤ room_of d + dropped d.tables)
  unfolding fits_in
  compacted-fits =
      let same : written p x d.tables ≡ written p x (compacted d).tables = same-written (compacted_alike sound) sound (compacted_sound sound) p x in (
        (λ e. omega (arith, leb-true ((compacted d).tables.used + written p x (compacted d).tables) (room_of (compacted d)) e, compacted_gains d, accepted_room d fine, same)),
        (λ h. le-leb ((compacted d).tables.used + written p x (compacted d).tables) (room_of (compacted d)) (omega (arith, compacted_gains d, accepted_room d fine, same))),
      )
