-- Conflicts by identities: definitions 3 and 4 of document 000, over finite documents of any size, with sets of identities for sets of nodes.
use Rattle.std.specs.Prelude.{ℕ, List}
use Rattle.conflict.specs.Conflict.{Update}
use Rattle.identities.specs.Documents.{Document, SoundDocument}
use Rattle.identities.specs.Updates.{after_in}
use Rattle.identities.specs.Showing.{SelectsIdentity}

-- the read's set of identities differs before and after the update: some identity is in one of them only
pub data DiffersIn (r : List ℕ) (u : Update) (d : Document) : Type 0 where
  lost : (i : ℕ) → SelectsIdentity r d i → (SelectsIdentity r (after_in u d) i → ⊥) → DiffersIn r u d
  gained : (i : ℕ) → (SelectsIdentity r d i → ⊥) → SelectsIdentity r (after_in u d) i → DiffersIn r u d

-- there is a sound document on which they differ
pub record ConflictIn (r : List ℕ) (u : Update) : Type 0 where
  pub document : Document
  pub sound : SoundDocument document
  pub differs : DiffersIn r u document
