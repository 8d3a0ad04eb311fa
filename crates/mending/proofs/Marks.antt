-- The mended mark of a node: 0 for the root; of any other node 1 where its own was not 0, else that of its parent.
use Prim.Native.Nat.{ℕ, zero, suc, min, ◌<◌, ◌≤◌}
use mathlib.Core.Path.{◌≡◌, refl, sym, ◌∙◌}
use mathlib.Core.Bool.{Bool, true, false, ◌||◌, cond}
use mathlib.Core.List.{List}
use native.Mathlib.Decide.{ℕ_discrete}
use native.Mathlib.Nat.{not-suc-le-zero}
use native.Mathlib.Omega.{arith}
use lib.Dec.{eqb}
use lib.ListN.{get_or}
use borrow.Author.Tests.{eq-eqb, ne_eqb}
use Rattle.tables.specs.Words.{parent}
use Rattle.selection.proofs.Rows.{bit_most}
use Rattle.mending.specs.Mending.{evened, gone_up, mended_mark}

module _ (t m : List ℕ) where
  -- the root's
  gone_root : (n : ℕ) → gone_up t m (suc n) 0 ≡ false
  unfolding gone_up evened
  gone_root n = refl

  pub mended-root : mended_mark t m 0 ≡ 0
  unfolding mended_mark
  mended-root = rw (gone_root _) refl

  -- the mark of a node that is not the root is evened to 0 exactly if it is 0
  evened_later : (v : ℕ) → 0 < v → eqb (evened m v) 1 ≡ cond (eqb (get_or m v 0) 0) false true
  unfolding evened
  evened_later v some = rw (ne_eqb v 0 (λ z. omega arith)) (go (ℕ_discrete (get_or m v 0) 0))
    where
      go : Dec (get_or m v 0 ≡ 0) → eqb (min (get_or m v 0) 1) 1 ≡ cond (eqb (get_or m v 0) 0) false true
      go (yes z) = rw z refl
      go (no s) = rw (ne_eqb (get_or m v 0) 0 s) (eq-eqb (min (get_or m v 0) 1) 1 (omega arith))

  gone_later : (n v : ℕ) → 0 < v → gone_up t m (suc n) v ≡ (cond (eqb (get_or m v 0) 0) false true || gone_up t m n (parent t v))
  unfolding gone_up
  gone_later n v some = rw (evened_later v some, ne_eqb v 0 (λ z. omega arith)) refl

  module _ (n : ℕ) (falls : (v : ℕ) → 0 < v → v < n → parent t v < v) where
    -- as many nodes as there can be above are enough
    gone_enough : (k j v : ℕ) → v < k → v < j → v < n → gone_up t m k v ≡ gone_up t m j v
    gone_enough zero j v h l used = absurd (not-suc-le-zero h)
    gone_enough (suc k) zero v h l used = absurd (not-suc-le-zero l)
    gone_enough (suc k) (suc j) zero h l used = gone_root k ∙ sym (gone_root j)
    gone_enough (suc k) (suc j) (suc v) h l used =
        let fall : parent t (suc v) < suc v = falls (suc v) (omega arith) used in
        rw (gone_later k (suc v) (omega arith), gone_later j (suc v) (omega arith), gone_enough k j (parent t (suc v)) (omega arith) (omega arith) (omega arith)) refl

    pub mended_node : (v : ℕ) → 0 < v → v < n → mended_mark t m v ≡ cond (eqb (get_or m v 0) 0) (mended_mark t m (parent t v)) 1
    unfolding mended_mark
    mended_node v some used =
        let fall : parent t v < v = falls v some used in
        rw (gone_later v v some, gone_enough v (suc (parent t v)) (parent t v) fall (omega arith) (omega arith))
        (go (eqb (get_or m v 0) 0) (gone_up t m (suc (parent t v)) (parent t v)))
      where
        go : (a b : Bool) → ◌≡◌ {A = ℕ} (cond (cond a false true || b) 1 0) (cond a (cond b 1 0) 1)
        go true b = refl
        go false b = refl

  -- a mark is 0 or 1
  pub mended-bit : (v : ℕ) → mended_mark t m v ≤ 1
  unfolding mended_mark
  mended-bit v = bit_most (gone_up t m (suc v) v)
