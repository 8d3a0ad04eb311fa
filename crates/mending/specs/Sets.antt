-- Sets of nodes of a document: sound ones, and the largest.
use Rattle.std.specs.Prelude.{ℕ, ◌<◌, ◌≡◌, ◌⊎◌}
use Rattle.tables.specs.Words.{parent}
use Rattle.tables.specs.Documents.{Doc, mark}

-- a sound set: used nodes, the root among them, and with each node its parent
pub record SoundSet (d : Doc) (set : ℕ → Type 0) : Type 0 where
  pub used : (v : ℕ) → set v → v < d.used
  pub root : set 0
  pub closed : (v : ℕ) → 0 < v → set v → set (parent d.rows v)

-- it is among the root and the nodes whose mark is 0
abbrev pub Among : Doc → (ℕ → Type 0) → Type 0
Among d set = (v : ℕ) → set v → (v ≡ 0) ⊎ (mark d v ≡ 0)

-- the largest such set: every other is within it
pub record LargestSound (d : Doc) (set : ℕ → Type 0) : Type 1 where
  pub sound : SoundSet d set
  pub among : Among d set
  pub largest : (other : ℕ → Type 0) → SoundSet d other → Among d other → (v : ℕ) → other v → set v
