-- Down a document whose shape is right, from the root: what holds of every used node, and how its mended mark follows from its parent's.
use Prim.Native.Nat.{ℕ, zero, suc, ◌<◌, ◌≤◌}
use mathlib.Core.Path.{◌≡◌, refl}
use mathlib.Core.Bool.{cond}
use mathlib.Core.Logic.{◌≢◌}
use native.Mathlib.Decide.{ℕ_discrete}
use native.Mathlib.Nat.{not-suc-le-zero}
use native.Mathlib.Omega.{arith}
use lib.Dec.{eqb}
use borrow.Author.Tests.{ne_eqb}
use Rattle.tables.specs.Words.{parent}
use Rattle.tables.specs.Documents.{Doc, mark}
use Rattle.tables.specs.Checks.{shape_check, Fine}
use Rattle.tables.proofs.Soundness.{shape_nodes, node_falls}
use Rattle.mending.specs.Mending.{mended_mark}
use Rattle.mending.proofs.Marks.{mended-bit, mended_node}

module _ (d : Doc) (shape : shape_check d ≡ Fine) where
  -- a parent has the smaller number
  pub falls : (v : ℕ) → 0 < v → v < d.used → parent d.rows v < v
  falls = node_falls d.rows 5 d.used (shape_nodes d shape)

  -- what holds of the root, and of each node of whose parent it holds, holds of every used node
  module _ (P : ℕ → Type 0) (root : P 0) (step : (v : ℕ) → 0 < v → v < d.used → P (parent d.rows v) → P v) where
    below : (n v : ℕ) → v < n → v < d.used → P v
    below zero v h used = absurd (not-suc-le-zero h)
    below (suc n) zero h used = root
    below (suc n) (suc v) h used =
        let fall : parent d.rows (suc v) < suc v = falls (suc v) (omega arith) used in
        step (suc v) (omega arith) used (below n (parent d.rows (suc v)) (omega arith) (omega arith))

    pub downwards : (v : ℕ) → v < d.used → P v
    downwards v used = below (suc v) v (omega arith) used

  node : (v : ℕ) → 0 < v → v < d.used → mended_mark d.rows d.marks v ≡ cond (eqb (mark d v) 0) (mended_mark d.rows d.marks (parent d.rows v)) 1
  node = mended_node d.rows d.marks d.used falls

  -- a mark of 0 becomes that of the parent, any other becomes 1
  pub mended_kept : (v : ℕ) → 0 < v → v < d.used → mark d v ≡ 0 → mended_mark d.rows d.marks v ≡ mended_mark d.rows d.marks (parent d.rows v)
  mended_kept v some used e = rw (node v some used, e) refl

  pub mended-own : (v : ℕ) → 0 < v → v < d.used → mark d v ≢ 0 → mended_mark d.rows d.marks v ≡ 1
  mended-own v some used e = rw (node v some used, ne_eqb (mark d v) 0 e) refl

  -- so it is not less than the parent's
  pub mended_above : (v : ℕ) → 0 < v → v < d.used → mended_mark d.rows d.marks (parent d.rows v) ≤ mended_mark d.rows d.marks v
  mended_above v some used = go (ℕ_discrete (mark d v) 0)
    where
      go : Dec (mark d v ≡ 0) → mended_mark d.rows d.marks (parent d.rows v) ≤ mended_mark d.rows d.marks v
      go (yes e) = omega (arith, mended_kept v some used e)
      go (no e) = omega (arith, mended-own v some used e, mended-bit d.rows d.marks (parent d.rows v))
