-- Trees that are equal up to the numbering of their nodes.
use Rattle.std.specs.Prelude.{ℕ, zero, suc, ◌<◌, ◌≡◌, List, [], ◌∷◌, length, get_or}
use Rattle.tables.specs.Words.{nodes, parent, tag}
use Rattle.text_xml.specs.Tags.{children, in_turn}

-- the nodes of v and below it in the order of their start tags, at most n levels: v, then those of its children in turn
unfoldable pub starts_in : List ℕ → ℕ → ℕ → List ℕ
starts_in t zero v = []
starts_in t (suc n) v = v ∷ in_turn (starts_in t n) (children t v)

-- all nodes of a tree in the order of their start tags
unfoldable pub starts : List ℕ → List ℕ
starts t = starts_in t (nodes t) 0

-- a tree is numbered in that order
abbrev pub InOrder : List ℕ → Type 0
InOrder t = (k : ℕ) → k < nodes t → get_or (starts t) k 0 ≡ k

-- u is t up to the numbering, where node k of u is node `old k` of t: the same shape, the same labels, and siblings in their order
pub record Renumbered (t u : List ℕ) (old : ℕ → ℕ) : Type 0 where
  pub as_long : length u ≡ length t
  pub node : (k : ℕ) → k < nodes u → old k < nodes t
  pub once : (j k : ℕ) → j < k → k < nodes u → old j ≡ old k → ⊥
  pub root : old 0 ≡ 0
  pub label : (k : ℕ) → k < nodes u → tag u k ≡ tag t (old k)
  pub under : (k : ℕ) → 0 < k → k < nodes u → old (parent u k) ≡ parent t (old k)
  pub siblings : (j k : ℕ) → 0 < j → j < k → k < nodes u → parent u j ≡ parent u k → old j < old k
