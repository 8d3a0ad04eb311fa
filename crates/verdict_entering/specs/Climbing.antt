-- Inside: the states in which a read leaves an inserted tree upwards, from the last state down: one row of bytes a state, a byte for each node.
use Rattle.std.specs.Prelude.{ℕ, suc, ◌<◌, ◌≤◌, ◌≡◌, Bool, true, false, ◌&&◌, ◌||◌, List, eqb, length, get_or}
use Rattle.tables.specs.Limits.{step_limit, tree_limit}
use Rattle.tables.specs.Words.{steps, nodes, parent, tag}
use Rattle.selection.specs.Ways.{takes, stays, last}
use Rattle.verdict_entering.specs.Entering.{entered}

-- a pattern of no more steps than the limit, and a tree of no more nodes than its limit in which parents fall
pub record Fitting (r x : List ℕ) : Type 0 where
  pub some : 0 < steps r
  pub reads : steps r ≤ step_limit
  pub root : 0 < nodes x
  pub most : nodes x ≤ tree_limit
  pub falls : (v : ℕ) → 0 < v → v < nodes x → parent x v < v

-- the row has node v
abbrev pub has : List ℕ → ℕ → Bool
has row v = eqb (get_or row v 0) 1

-- from the row of the next state and the own one, a run is in state k above v's label
unfoldable pub leaves : List ℕ → List ℕ → ℕ → List ℕ → List ℕ → ℕ → Bool
leaves r x k above own v = (has above v && takes r (suc k) (tag x v)) || (has own v && stays r false k)

-- a run from r's last state at some node comes to state k below the label of v
pub data Climb (r x : List ℕ) : ℕ → ℕ → Type 0 where
  starts : {v : ℕ} → v < nodes x → Climb r x v (last r)
  lands : {v k : ℕ} → 0 < v → Climb r x v (suc k) → takes r (suc k) (tag x v) ≡ true → Climb r x (parent x v) k
  passes : {v k : ℕ} → 0 < v → Climb r x v k → stays r false k ≡ true → Climb r x (parent x v) k

-- a row with this byte everywhere
pub record Filled (byte : ℕ) (row : List ℕ) : Type 0 where
  pub room : length row ≡ tree_limit
  pub each : (v : ℕ) → v < tree_limit → get_or row v 0 ≡ byte

-- a row without any of the first n nodes
pub record Clear (n : ℕ) (row : List ℕ) : Type 0 where
  pub room : length row ≡ tree_limit
  pub none : (v : ℕ) → v < n → get_or row v 0 ≡ 0

-- the row of state k: the nodes of x to which a run comes in this state, and no others
pub record Reached (r x : List ℕ) (k : ℕ) (row : List ℕ) : Type 0 where
  pub room : length row ≡ tree_limit
  pub sound : (u : ℕ) → u < nodes x → has row u ≡ true → Climb r x u k
  pub full : (u : ℕ) → Climb r x u k → has row u ≡ true

-- on the way to it: the row has only such nodes, and from node v on, the parent of a node that is left in state k
pub record Climbed (r x : List ℕ) (k : ℕ) (above : List ℕ) (v : ℕ) (own : List ℕ) : Type 0 where
  pub room : length own ≡ tree_limit
  pub sound : (u : ℕ) → u < nodes x → has own u ≡ true → Climb r x u k
  pub closed : (u : ℕ) → 0 < u → u < nodes x → v ≤ u → leaves r x k above own u ≡ true → has own (parent x u) ≡ true

-- the first n bytes have been handed from the row `before` to the row `above`, and are 0 in the own one
pub record Handed (before : List ℕ) (n : ℕ) (above own : List ℕ) : Type 0 where
  pub moved : (v : ℕ) → v < n → get_or above v 0 ≡ get_or before v 0
  pub none : (v : ℕ) → v < n → get_or own v 0 ≡ 0
  pub rest : (v : ℕ) → n ≤ v → get_or own v 0 ≡ get_or before v 0

-- the bytes of the states from k on
pub record Written (r x : List ℕ) (k : ℕ) (states : List ℕ) : Type 0 where
  pub room : length states ≡ step_limit
  pub bytes : (i : ℕ) → k ≤ i → i < step_limit → get_or states i 0 ≡ entered r x i
