-- The way from a node up to the root as a relation, and that `up` computes it wherever parents fall.
use Prim.Native.Nat.{ℕ, zero, suc, ◌<◌, ◌≤◌}
use mathlib.Core.Path.{◌≡◌, refl, ap}
use mathlib.Core.Bool.{false}
use mathlib.Core.List.{List, [], ◌∷◌}
use native.Mathlib.Omega.{arith}
use lib.ListN.{length}
use Rattle.tables.specs.Limits.{word_limit}
use Rattle.tables.specs.Words.{parent, tag}
use Rattle.tables.specs.Documents.{Doc, Sound}
use Rattle.selection.specs.Ways.{empty, up, ups}

pub data Up (t : List ℕ) : ℕ → List ℕ → Type 0 where
  top : Up t 0 (tag t 0 ∷ [])
  node : {v : ℕ} {w : List ℕ} → 0 < v → Up t (parent t v) w → Up t v (tag t v ∷ w)

-- a node with its words given
pub hung : {t : List ℕ} {v u l : ℕ} {w : List ℕ} → 0 < v → parent t v ≡ u → tag t v ≡ l → Up t u w → Up t v (l ∷ w)
hung h p e r = rw (← e) (node h (rw (← p) at r))

-- P holds of every label
pub data All (P : ℕ → Type 0) : List ℕ → Type 0 where
  none : All P []
  more : {l : ℕ} {w : List ℕ} → P l → All P w → All P (l ∷ w)

-- a label that a node may have
pub record Label (l : ℕ) : Type 0 where
  pub named : 0 < l
  pub word : l < word_limit

-- below n, every node but the root has a parent of a smaller number
abbrev pub Falls : List ℕ → ℕ → Type 0
Falls t n = (v : ℕ) → 0 < v → v < n → parent t v < v

-- two ways of one node are equal
pub up_one : {t : List ℕ} {v : ℕ} {w w' : List ℕ} → Up t v w → Up t v w' → w ≡ w'
up_one top top = refl
up_one top (node h u) = absurd (omega arith)
up_one (node h u) top = absurd (omega arith)
up_one {t} (node {v = v} h u) (node k r) = ap (λ (w : List ℕ). tag t v ∷ w) (up_one u r)

module _ (t : List ℕ) (n : ℕ) (falls : Falls t n) where
  ups_is : (k v : ℕ) → v < k → v < n → Up t v (ups t k v)
  unfolding ups
  ups_is zero v h b = absurd (omega arith)
  ups_is (suc k) zero h b = top
  ups_is (suc k) (suc v) h b =
      let less : parent t (suc v) < suc v = falls (suc v) (omega arith) b in
      node {v = suc v} (omega arith) (ups_is k (parent t (suc v)) (omega arith) (omega arith))

  -- `up` is the way
  pub up_is : (v : ℕ) → v < n → Up t v (up t v)
  unfolding up
  up_is v b = ups_is (suc v) v (omega arith) b

  pub up_of : {v : ℕ} {w : List ℕ} → v < n → Up t v w → up t v ≡ w
  up_of {v} b u = up_one (up_is v b) u

  pub up_node : (v : ℕ) → 0 < v → v < n → up t v ≡ tag t v ∷ up t (parent t v)
  up_node v h b =
      let less : parent t v < v = falls v h b in
      up_of b (node h (up_is (parent t v) (omega arith)))

  -- what holds of every tag below n holds of every label on a way
  pub all_up : (P : ℕ → Type 0) → ((v : ℕ) → v < n → P (tag t v)) → {v : ℕ} {w : List ℕ} → v < n → Up t v w → All P w
  all_up P each b top = more (each 0 b) none
  all_up P each b (node {v = v} h u) =
      let less : parent t v < v = falls v h b in
      more (each v b) (all_up P each (omega arith) u)

-- no way is empty
pub some_up : (t : List ℕ) (v : ℕ) → empty (up t v) ≡ false
unfolding up ups
some_up t zero = refl
some_up t (suc v) = refl

pub up_top : (t : List ℕ) → up t 0 ≡ tag t 0 ∷ []
unfolding up ups
up_top t = refl

length-ups : (t : List ℕ) (k v : ℕ) → length (ups t k v) ≤ k
unfolding ups
length-ups t zero v = omega arith
length-ups t (suc k) zero = omega arith
length-ups t (suc k) (suc v) = omega (arith, length-ups t k (parent t (suc v)))

-- a way has no more labels than nodes up to its own
pub length_up : (t : List ℕ) (v : ℕ) → length (up t v) ≤ suc v
unfolding up
length_up t v = length-ups t (suc v) v

-- the same in a sound document, for its used nodes
module _ {d : Doc} (sound : Sound d) where
  pub way_is : (v : ℕ) → v < d.used → Up d.rows v (up d.rows v)
  way_is = up_is d.rows d.used sound.parents

  pub way_of : {v : ℕ} {w : List ℕ} → v < d.used → Up d.rows v w → up d.rows v ≡ w
  way_of = up_of d.rows d.used sound.parents

  pub way_node : (v : ℕ) → 0 < v → v < d.used → up d.rows v ≡ tag d.rows v ∷ up d.rows (parent d.rows v)
  way_node = up_node d.rows d.used sound.parents

  -- every label on the way of a used node is 1 to 65,535
  pub labels_up : (v : ℕ) → v < d.used → All Label (up d.rows v)
  labels_up v b =
      all_up d.rows d.used sound.parents Label
      (λ u h. record { named = sound.named u h; word = sound.labels u h })
      b
      (way_is v b)
