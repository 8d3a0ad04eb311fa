-- The nodes on the way of a present node are present and of different numbers, so it has no more labels than the document has present nodes.
use Prim.Native.Nat.{ℕ, suc, ◌<◌, ◌≤◌}
use native.Mathlib.Omega.{arith}
use mathlib.Core.Path.{◌≡◌}
use mathlib.Core.Bool.{true}
use mathlib.Core.List.{List}
use lib.ListN.{length}
use Rattle.tables.specs.Documents.{Doc, present, Sound}
use Rattle.selection.specs.Lists.{count}
use Rattle.selection.specs.Ways.{up, sel, selected}
use Rattle.selection.proofs.Up.{Up, top, node, way_is}
use Rattle.selection.proofs.Runs.{both}
use Rattle.selection.proofs.Lists.{count_mono, count_holds}
use Rattle.selection.proofs.Presence.{present_used}
use Rattle.conflict.proofs.Steps.{Within}

-- what a selected node tells, with a motive
pub by_selected : {X : Type 0} (p : List ℕ) (d : Doc) (v : ℕ) → selected p d v ≡ true → (present d v ≡ true → sel p (up d.rows v) ≡ true → X) → X
unfolding selected
by_selected p d v e f = both (present d v) (sel p (up d.rows v)) e f

-- a present node whose way has n labels or more, and n is not 0
pub record Reached (n : ℕ) (d : Doc) : Type 0 where
  pub at : ℕ
  pub here : present d at ≡ true
  pub within : Within n (length (up d.rows at))

module _ {d : Doc} (sound : Sound d) where
  depth_up : {v : ℕ} {w : List ℕ} → Up d.rows v w → present d v ≡ true → length w ≤ count (present d) (suc v)
  depth_up top here = omega (arith, count_holds (present d) 0 1 (omega arith) here)
  depth_up (node {v = v} k u) here =
      omega (
        arith,
        depth_up u (sound.closed v k here),
        count_mono (present d) _ v (sound.parents v k (present_used d v here)),
        count_holds (present d) v (suc v) (omega arith) here,
      )

  -- that of a present node has at most as many labels as there are present nodes
  depth : (v : ℕ) → present d v ≡ true → length (up d.rows v) ≤ count (present d) d.used
  depth v here =
      let h : v < d.used = present_used d v here in
      omega (arith, depth_up (way_is sound v h) here, count_mono (present d) (suc v) d.used h)

  -- so the document has at least n present nodes
  pub reached-within : {n : ℕ} → Reached n d → Within n (count (present d) d.used)
  reached-within far = omega (arith, far.within, depth far.at far.here)
