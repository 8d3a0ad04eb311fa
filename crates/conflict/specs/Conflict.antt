-- Conflicts: definitions 3 and 4 of document 000, over the operations on tables and finite trees of any size.
use Rattle.std.specs.Prelude.{ℕ, suc, ◌<◌, ◌≤◌, ◌≡◌, List, ◌⊎◌}
use Rattle.tables.specs.Words.{nodes, parent, Bits16}
use Rattle.tables.specs.Documents.{Doc, bare, Sound}
use Rattle.selection.specs.Embeddings.{AtOrBelow, Selects}
use Rattle.selection.specs.Operations.{deleted, inserted}

-- an update: a delete with its pattern, or an insert with its pattern and the inserted tree
pub data Update : Type 0 where
  delete : List ℕ → Update
  insert : List ℕ → List ℕ → Update

abbrev pub pattern : Update → List ℕ
pattern (delete p) = p
pattern (insert p x) = p

-- every word of an update has 16 bits
abbrev pub UpdateBits : Update → Type 0
UpdateBits (delete p) = Bits16 p
UpdateBits (insert p x) = Bits16 p × Bits16 x

-- the document after the update
abbrev pub after : Update → Doc → Doc
after (delete p) d = deleted p d
after (insert p x) d = inserted p x d

-- the read's set of nodes differs before and after the update: some node is in one of them only
pub data Differs (r : List ℕ) (u : Update) (d : Doc) : Type 0 where
  lost : (v : ℕ) → Selects r d v → (Selects r (after u d) v → ⊥) → Differs r u d
  gained : (v : ℕ) → (Selects r d v → ⊥) → Selects r (after u d) v → Differs r u d

-- a witness: a sound tree on which they differ
pub record Witness (r : List ℕ) (u : Update) (tree : List ℕ) : Type 0 where
  pub sound : Sound (bare tree)
  pub differs : Differs r u (bare tree)

-- node conflict: there is a witness
pub record Conflict (r : List ℕ) (u : Update) : Type 0 where
  pub tree : List ℕ
  pub shows : Witness r u tree

-- n is the number of nodes of a smallest witness, 0 for none
pub record Smallest (r : List ℕ) (u : Update) (n : ℕ) : Type 0 where
  pub none : n ≡ 0 → Conflict r u → ⊥
  pub some : 0 < n → (t : List ℕ) × Witness r u t × (nodes t ≡ n)
  pub fewest : (t : List ℕ) → Witness r u t → n ≤ nodes t

-- t is a smallest witness: one of the fewest nodes
pub record SmallestWitness (r : List ℕ) (u : Update) (t : List ℕ) : Type 0 where
  pub shows : Witness r u t
  pub fewest : (s : List ℕ) → Witness r u s → nodes t ≤ nodes s

-- t is a chain: every node but the root has the node before it as its parent
pub record Chain (t : List ℕ) : Type 0 where
  pub before : (v : ℕ) → suc v < nodes t → parent t (suc v) ≡ v

-- some tree has an update point at or below a node that the read selects
pub record Touches (r : List ℕ) (u : Update) : Type 0 where
  pub tree : List ℕ
  pub sound : Sound (bare tree)
  pub node : ℕ
  pub point : ℕ
  pub read : Selects r (bare tree) node
  pub update : Selects (pattern u) (bare tree) point
  pub under : AtOrBelow tree node point

-- what the deep verdict answers: a node conflict, or an update point at or below a node that the read selects
abbrev pub Deep : List ℕ → Update → Type 0
Deep r u = Conflict r u ⊎ Touches r u
