-- What a read is shown of a document with identities: a set of identities, and what is present below each of them.
use Rattle.std.specs.Prelude.{ℕ, ◌≡◌, List, ◌↔◌}
use Rattle.selection.specs.Embeddings.{Selects}
use Rattle.selection.specs.Showing.{PresentBelow}
use Rattle.identities.specs.Documents.{Document, identity}

-- p selects the node of identity i
pub record SelectsIdentity (p : List ℕ) (d : Document) (i : ℕ) : Type 0 where
  pub node : ℕ
  pub selects : Selects p d.tables node
  pub named : identity d node ≡ i

-- below the node of identity i a node of identity j is present
pub record IdentityBelow (d : Document) (i j : ℕ) : Type 0 where
  pub upper : ℕ
  pub lower : ℕ
  pub below : PresentBelow d.tables upper lower
  pub named_upper : identity d upper ≡ i
  pub named_lower : identity d lower ≡ j

-- the same identities
pub record SameIdentities (r : List ℕ) (d e : Document) : Type 0 where
  pub identities : (i : ℕ) → SelectsIdentity r d i ↔ SelectsIdentity r e i

-- the same identities, and the same present ones below each
pub record SameIdentitiesBelow (r : List ℕ) (d e : Document) : Type 0 where
  pub identities : (i : ℕ) → SelectsIdentity r d i ↔ SelectsIdentity r e i
  pub below : (i : ℕ) → SelectsIdentity r d i → (j : ℕ) → IdentityBelow d i j ↔ IdentityBelow e i j
