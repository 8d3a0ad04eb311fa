-- Inside: each node's first child and next sibling, so that no child is looked for twice.
use Rattle.std.specs.Prelude.{ℕ, zero, suc, ◌+◌, ◌-◌, ◌<◌, ◌≤◌, ◌≡◌, cond, List, length, get_or}
use Rattle.tables.specs.Limits.{tree_limit}
use Rattle.tables.specs.Words.{nodes, parent}
use Rattle.tables.specs.Documents.{bare, Sound}
use Rattle.text_xml.specs.Tags.{child_of, tags_of}

-- the first child of v from c on, of k numbers; 0 where there is none
unfoldable pub child_in : List ℕ → ℕ → ℕ → ℕ → ℕ
child_in t v c zero = 0
child_in t v c (suc k) = cond (child_of t v c) c (child_in t v (suc c) k)

-- the first child of v from c on
unfoldable pub child_from : List ℕ → ℕ → ℕ → ℕ
child_from t v c = child_in t v c (nodes t - c)

-- the nodes from u on are linked: to each node its first child among them, to each of them its next sibling
pub record LinkedFrom (u : ℕ) (t first next : List ℕ) : Type 0 where
  pub firsts : (v : ℕ) → v < nodes t → get_or first v 0 ≡ child_from t v u
  pub nexts : (v : ℕ) → u ≤ v → v < nodes t → get_or next v 0 ≡ child_from t (parent t v) (suc v)

-- an accepted tree, and rows for its links in which there are none yet
pub record Linkable (t first next : List ℕ) : Type 0 where
  pub sound : Sound (bare t)
  pub few : nodes t ≤ tree_limit
  pub firsts : nodes t ≤ length first
  pub nexts : nodes t ≤ length next
  pub empty : (v : ℕ) → get_or first v 0 ≡ 0

-- an accepted tree whose nodes are linked
pub record Nested (t first next : List ℕ) : Type 0 where
  pub sound : Sound (bare t)
  pub few : nodes t ≤ tree_limit
  pub linked : LinkedFrom 1 t first next

-- a node of it whose text has room from a place on
pub record Writable (t first next : List ℕ) (v : ℕ) (out : List ℕ) (at : ℕ) : Type 0 where
  pub nested : Nested t first next
  pub node : v < nodes t
  pub room : at + length (tags_of t v) ≤ length out
