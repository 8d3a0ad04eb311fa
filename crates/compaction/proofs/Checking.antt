-- A document that meets no refusal, its identities among them, meets none after a compaction, and has the room that it had.
use Rattle.tables.specs.Checks.{Fine}
use mathlib.Core.Path.{◌≡◌}
use native.Mathlib.Omega.{arith}
use Rattle.tables.specs.Documents.{Sound}
use Rattle.tables.proofs.Soundness.{used_facts}
use Rattle.identities.specs.Documents.{Document}
use Rattle.identities.specs.Checks.{whole_check}
use Rattle.identities.specs.Updates.{room_of}
use Rattle.identities.specs.Compaction.{compacted}
use Rattle.identities.proofs.Checks.{identified_fine, whole_tables, whole_fine, whole_identified}
use Rattle.compaction.proofs.Closing.{compacted_tables, compacted_room}
use Rattle.compaction.proofs.Keeping.{compacted_identified, closed_accepted}

module _ (d : Document) (fine : whole_check d ≡ Fine) where
  -- so what it gains is room for inserts
  pub accepted_room : room_of (compacted d) ≡ room_of d
  accepted_room =
      let facts = used_facts d.tables (whole_tables d fine) in
      compacted_room d (omega (arith, facts.2)) facts.3 (whole_identified d fine).row

  pub compacted_accepted : Sound d.tables → whole_check (compacted d) ≡ Fine
  compacted_accepted sound =
      whole_fine (compacted d)
      (rw (compacted_tables d) (closed_accepted sound (whole_tables d fine)))
      (identified_fine (compacted d) (compacted_identified (whole_identified d fine)))
