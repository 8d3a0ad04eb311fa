-- Inside: rows of bytes, one for each node of a proposed tree, and for each node of one copy behind it.
use Rattle.std.specs.Prelude.{ℕ, ◌+◌, ◌<◌, ◌≡◌, cond, List, length, get_or}
use Rattle.tables.specs.Limits.{step_limit, tree_limit}
use Rattle.tables.specs.Words.{nodes}
use Rattle.tables.specs.Documents.{bare}
use Rattle.tables.specs.Checks.{pattern_check, tree_check, Fine}
use Rattle.selection.specs.Lists.{somewhere}
use Rattle.selection.specs.Ways.{up}
use Rattle.selection.specs.Operations.{hits}
use Rattle.doc_read.specs.Wanted.{stands_at}
use Rattle.verdict_evidence.specs.Finding.{picks}

-- n numbers, each 0
pub record Blank (n : ℕ) (row : List ℕ) : Type 0 where
  pub long : length row ≡ n
  pub each : (i : ℕ) → get_or row i 0 ≡ 0

-- 1 at the nodes that a delete by p removes, 0 at the others
abbrev pub Cut : List ℕ → List ℕ → List ℕ → Type 0
Cut p t row = (v : ℕ) → v < nodes t → get_or row v 0 ≡ cond (hits p (up t v)) 1 0

-- 1 at the nodes at which a wanted step of r stands, 0 at the others
pub record Standing (r wanted t row : List ℕ) : Type 0 where
  pub byte : (v : ℕ) → v < nodes t → get_or row v 0 ≡ cond (stands_at r wanted (bare t) v) 1 0

-- 1 at the nodes under which r selects some node of a copy of x, 0 at the others
pub record Enterable (r x t row : List ℕ) : Type 0 where
  pub byte : (v : ℕ) → v < nodes t → get_or row v 0 ≡ cond (somewhere (picks r x (up t v)) (nodes x)) 1 0

-- an accepted read, an accepted tree x, and a node q of an accepted tree t under which x is hung
pub record Hung (r x t : List ℕ) (q : ℕ) : Type 0 where
  pub reads : pattern_check r step_limit 1 ≡ Fine
  pub inserted : tree_check x tree_limit 3 ≡ Fine
  pub proposed : tree_check t tree_limit 5 ≡ Fine
  pub under : q < nodes t

-- behind t's nodes, 1 at the nodes of the copy of x under q that r selects, 0 at the others
pub record Picked (r x t : List ℕ) (q : ℕ) (row : List ℕ) : Type 0 where
  pub byte : (k : ℕ) → k < nodes x → get_or row (nodes t + k) 0 ≡ cond (picks r x (up t q) k) 1 0
