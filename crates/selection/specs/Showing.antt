-- When two documents show the same to a read: by its nodes alone, or by these and what lies below them.
use Rattle.std.specs.Prelude.{ℕ, ◌≡◌, true, List, ◌↔◌}
use Rattle.tables.specs.Documents.{Doc, present}
use Rattle.selection.specs.Embeddings.{Below, Selects}

-- a present node below v
pub record PresentBelow (d : Doc) (v w : ℕ) : Type 0 where
  pub below : Below d.rows v w
  pub there : present d w ≡ true

-- the same nodes
pub record SameNodes (r : List ℕ) (d e : Doc) : Type 0 where
  pub nodes : (v : ℕ) → Selects r d v ↔ Selects r e v

-- the same nodes, and the same present nodes below each
pub record SameBelow (r : List ℕ) (d e : Doc) : Type 0 where
  pub nodes : (u : ℕ) → Selects r d u ↔ Selects r e u
  pub below : (v : ℕ) → Selects r d v → (w : ℕ) → PresentBelow d v w ↔ PresentBelow e v w
