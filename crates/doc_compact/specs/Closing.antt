-- Inside: what closing up a document asks and gives.
use Rattle.outcomes.specs.declared.updates.Compacted.{Compacted}
use Rattle.std.specs.Prelude.{ℕ, ◌+◌, ◌*◌, ◌<◌, ◌≤◌, ◌≡◌, cond, List, eqb, length, get_or, set}
use Rattle.tables.specs.Limits.{used_limit}
use Rattle.tables.specs.Words.{parent, tag}
use Rattle.tables.specs.Documents.{Doc, Sound}
use Rattle.identities.specs.Documents.{Document}
use Rattle.identities.specs.Compaction.{staying, dropped, compacted}

-- node v is in each row, its new number m is not greater, and that of its parent stands in `places`
pub record Movable (rows marks ids places : List ℕ) (v m : ℕ) : Type 0 where
  pub least : m ≤ v
  pub limit : v < used_limit
  pub words : 2 * v + 1 < length rows
  pub mark : v < length marks
  pub identity : v < length ids
  pub above : parent rows v < length places

-- a present node's words, mark and identity stand at its new number, and the next number is one more; a removed node changes nothing
pub record Moved (places : List ℕ) (v m : ℕ) (rows₀ marks₀ ids₀ rows₁ marks₁ ids₁ : List ℕ) (n : ℕ) : Type 0 where
  pub rows : rows₁ ≡ cond (eqb (get_or marks₀ v 0) 0) (set (set rows₀ (2 * m) (get_or places (parent rows₀ v) 0)) (2 * m + 1) (tag rows₀ v)) rows₀
  pub marks : marks₁ ≡ cond (eqb (get_or marks₀ v 0) 0) (set marks₀ m 0) marks₀
  pub ids : ids₁ ≡ cond (eqb (get_or marks₀ v 0) 0) (set ids₀ m (get_or ids₀ v 0)) ids₀
  pub number : n ≡ cond (eqb (get_or marks₀ v 0) 0) (m + 1) m

-- a sound document of at most 4,096 used nodes, with a mark and an identity for each
pub record Closable (d : Doc) (ids : List ℕ) : Type 0 where
  pub sound : Sound d
  pub limit : d.used ≤ used_limit
  pub marks : d.used ≤ length d.marks
  pub identities : d.used ≤ length ids

-- these tables with a row of identities, whatever the next one is
abbrev pub with : Doc → List ℕ → ℕ → Document
with d ids next = record { tables = d; ids = ids; next = next }

-- its rows are those of its compaction, whatever the next identity is, and so many nodes stay
pub record Closed (d : Doc) (ids₀ rows₁ marks₁ ids₁ : List ℕ) (n : ℕ) : Type 0 where
  pub rows : (next : ℕ) → rows₁ ≡ (compacted (with d ids₀ next)).tables.rows
  pub marks : (next : ℕ) → marks₁ ≡ (compacted (with d ids₀ next)).tables.marks
  pub ids : (next : ℕ) → ids₁ ≡ (compacted (with d ids₀ next)).ids
  pub number : n ≡ staying d

-- the same, and the answer
pub record ClosedUp (d : Doc) (ids₀ rows₁ marks₁ ids₁ : List ℕ) (answer : Compacted) : Type 0 where
  pub rows : (next : ℕ) → rows₁ ≡ (compacted (with d ids₀ next)).tables.rows
  pub marks : (next : ℕ) → marks₁ ≡ (compacted (with d ids₀ next)).tables.marks
  pub ids : (next : ℕ) → ids₁ ≡ (compacted (with d ids₀ next)).ids
  pub answered : answer ≡ record { used = staying d; dropped = dropped d }
