-- Selection as document 000 has it, section 2.3: by embeddings of a pattern's steps into the present nodes.
use Rattle.std.specs.Prelude.{ℕ, suc, pred, ◌<◌, ◌≡◌, true, List, ◌⊎◌}
use Rattle.tables.specs.Words.{steps, axis, label, parent, tag}
use Rattle.tables.specs.Documents.{Doc, present}

-- v is a child of u
pub record Child (t : List ℕ) (u v : ℕ) : Type 0 where
  pub not_root : 0 < v
  pub under : parent t v ≡ u

-- v is a descendant of u, one level or more down
pub data Below (t : List ℕ) : ℕ → ℕ → Type 0 where
  one : {u v : ℕ} → Child t u v → Below t u v
  more : {u w v : ℕ} → Below t u w → Child t w v → Below t u v

-- v is u itself, or a descendant of it
abbrev pub AtOrBelow : List ℕ → ℕ → ℕ → Type 0
AtOrBelow t u v = (v ≡ u) ⊎ Below t u v

-- the steps of p placed on present nodes: the first on the root, labels agree (a wildcard with any), and each axis holds
pub record Embedding (p : List ℕ) (d : Doc) (place : ℕ → ℕ) : Type 0 where
  pub on_present : (i : ℕ) → i < steps p → present d (place i) ≡ true
  pub root : place 0 ≡ 0
  pub labels : (i : ℕ) → i < steps p → (label p i ≡ 0) ⊎ (label p i ≡ tag d.rows (place i))
  pub child : (i : ℕ) → suc i < steps p → axis p (suc i) ≡ 1 → Child d.rows (place i) (place (suc i))
  pub descendant : (i : ℕ) → suc i < steps p → axis p (suc i) ≡ 2 → Below d.rows (place i) (place (suc i))

-- p selects v: some embedding has its last step on v
pub record Selects (p : List ℕ) (d : Doc) (v : ℕ) : Type 0 where
  pub place : ℕ → ℕ
  pub embeds : Embedding p d place
  pub output : place (pred (steps p)) ≡ v
