-- A document that meets no refusal meets none after an accepted update.
use Rattle.tables.specs.Checks.{Fine}
use Prim.Native.Nat.{ℕ, ◌<◌}
use mathlib.Core.Path.{◌≡◌}
use mathlib.Core.List.{List}
use Rattle.tables.specs.Words.{steps, Bits16}
use Rattle.tables.proofs.Soundness.{accepted_document}
use Rattle.identities.specs.Documents.{Document, Identified, SoundDocument}
use Rattle.identities.specs.Checks.{whole_check}
use Rattle.identities.specs.Updates.{deleted_in, inserted_in}
use Rattle.identities.proofs.Checks.{identified_fine, whole_tables, whole_fine, whole_identified}
use Rattle.identities.proofs.Updates.{deleted_identified, inserted_identified, stored_in_cases}
use Rattle.doc_updates.proofs.Keeping.{Accepted, deleted_accepted, inserted_accepted}
use Rattle.conflict.specs.Conflict.{Update, delete, insert}
use Rattle.order.specs.Fitting.{FitUpdate}
use Rattle.order_calls.specs.Running.{updated}

-- a document that meets no refusal, its labels of 16 bits
pub record AcceptedDocument (d : Document) : Type 0 where
  pub tables : Accepted d.tables
  pub identities : Identified d

module _ {d : Document} where
  pub whole_accepted : Bits16 d.tables.rows → whole_check d ≡ Fine → AcceptedDocument d
  whole_accepted words fine =
      let tables = whole_tables d fine in
      record { tables = record { sound = accepted_document d.tables tables words; fine = tables }; identities = whole_identified d fine }

  pub accepted_whole : AcceptedDocument d → whole_check d ≡ Fine
  accepted_whole accepted = whole_fine d accepted.tables.fine (identified_fine d accepted.identities)

  pub accepted_sound : AcceptedDocument d → SoundDocument d
  accepted_sound accepted = record { tables = accepted.tables.sound; identities = accepted.identities }

  pub deleted_in_accepted : AcceptedDocument d → (p : List ℕ) → 1 < steps p → AcceptedDocument (deleted_in p d)
  unfolding deleted_in
  deleted_in_accepted accepted p two =
      record { tables = deleted_accepted accepted.tables p two; identities = deleted_identified p d accepted.identities }

  pub updated_accepted : AcceptedDocument d → (u : Update) → FitUpdate u → AcceptedDocument (updated u d)
  unfolding inserted_in
  updated_accepted accepted (delete p) fit = deleted_in_accepted accepted p fit.two
  updated_accepted accepted (insert p x) fit =
      stored_in_cases AcceptedDocument p x d
      (λ room. record { tables = inserted_accepted accepted.tables p x fit.tree room.tables; identities = inserted_identified p x d accepted.identities })
      accepted
