-- A smallest witness is always a chain: the labels on one way decide that the sets differ, so it has no node that is not on this way.
use Prim.Native.Nat.{ℕ, suc, ◌<◌, ◌≤◌}
use native.Mathlib.Omega.{arith}
use mathlib.Core.Path.{◌≡◌}
use mathlib.Core.List.{List}
use lib.ListN.{length}
use Rattle.tables.specs.Limits.{word_limit}
use Rattle.tables.specs.Words.{steps, nodes, label, parent}
use Rattle.tables.specs.Patterns.{Pattern}
use Rattle.tables.specs.Documents.{bare, Sound}
use Rattle.selection.specs.Ways.{up}
use Rattle.selection.proofs.Up.{Up, top, node, Falls, up_of, length_up, way_is}
use Rattle.selection.proofs.Lists.{below_suc}
use Rattle.selection.proofs.Presence.{present_used}
use Rattle.conflict.specs.Conflict.{Update, delete, insert, pattern, Conflict, SmallestWitness, Chain}
use Rattle.conflict.specs.Crossing.{chain}
use Rattle.conflict.proofs.Chains.{nodes-chain, chain-parent}
use Rattle.conflict.proofs.Depth.{Reached}
use Rattle.conflict.proofs.Smallest.{Decides, smallest}
use Rattle.conflict.proofs.Deletes.{decides_delete}
use Rattle.conflict.proofs.Inserts.{decides_insert}

module _ (t : List ℕ) (n : ℕ) (falls : Falls t n) where
  -- where a way has as many labels as there are nodes up to its own, each of these has the one before it as its parent
  tight : {v : ℕ} {w : List ℕ} → v < n → Up t v w → suc v ≤ length w → (u : ℕ) → u < v → parent t (suc u) ≡ u
  tight b top long u h = absurd (omega arith)
  tight b (node {v = v} {w = w} k above) long u h =
      let less : parent t v < v = falls v k b in
      let most : length w ≤ suc (parent t v) = rw (up_of t n falls (omega arith) above) at (length_up t (parent t v)) in
      let before : v ≡ suc (parent t v) = omega arith in
      below_suc u (parent t v) (omega arith)
      (λ lower. tight (omega arith) above (omega arith) u lower)
      (λ same. rw (same, ← before))

-- so a sound tree of no more nodes than one of its ways has labels is a chain
reached-chain : {t : List ℕ} {n : ℕ} → Sound (bare t) → nodes t ≤ n → Reached n (bare t) → Chain t
reached-chain {t} sound few far =
    let v : ℕ = far.at in
    let inside : v < nodes t = present_used (bare t) v far.here in
    let most : length (up t v) ≤ suc v = length_up t v in
    record { before = λ u h. tight t (nodes t) sound.parents inside (way_is sound v inside) (omega (arith, far.within)) u (omega (arith, far.within)) }

-- the words of a chain are a chain
pub chain_is : (w : List ℕ) → Chain (chain w)
chain_is w = record { before = λ v h. chain-parent w (suc v) (rw (nodes-chain w) at h) }

module _ {r : List ℕ} {u : Update} {way : List ℕ} (decides : Decides r u way) where
  -- a smallest witness has no more nodes than the chain of the way that decides, and some way of it has no fewer labels
  pub decided_chain : {t : List ℕ} → SmallestWitness r u t → Chain t
  decided_chain {t} least =
      let far : Reached (length way) (bare t) = decides.reached (bare t) least.shows.sound least.shows.differs in
      let few : nodes t ≤ length way = omega (arith, least.fewest (chain way) (decides.witness far.within.some), nodes-chain way) in
      reached-chain least.shows.sound few far

  -- where there is a conflict there is one: the chain of that way
  pub chain_smallest : Conflict r u → SmallestWitness r u (chain way)
  chain_smallest c =
      let far : Reached (length way) (bare c.tree) = decides.reached (bare c.tree) c.shows.sound c.shows.differs in
      record { shows = decides.witness far.within.some; fewest = rw (nodes-chain way) (smallest decides).fewest }

-- what is asked of the update: a delete has two steps or more, an inserted tree is sound
abbrev pub Asked : Update → Type 0
Asked (delete p) = 1 < steps p
Asked (insert p x) = Sound (bare x)

-- every smallest witness is a chain
pub smallest_chain : (r : List ℕ) (u : Update) → Pattern r → Asked u → ((k : ℕ) → label r k < word_limit) → ((k : ℕ) → label (pattern u) k < word_limit)
    → {t : List ℕ} → SmallestWitness r u t → Chain t
smallest_chain r (delete p) reads two names others = decided_chain (decides_delete r p reads two names others)
smallest_chain r (insert p x) reads tree names others = decided_chain (decides_insert r p x reads tree names others)
