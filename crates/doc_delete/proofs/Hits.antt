-- Striking in rising number: a present node is struck where it is selected or its parent is struck.
use Prim.Native.Nat.{ℕ, zero, suc, ◌+◌, ◌<◌, ◌≤◌}
use mathlib.Core.Path.{◌≡◌, refl, ◌∙◌}
use mathlib.Core.Bool.{Bool, true, false, ◌&&◌, ◌||◌, cond, and-false, or-false}
use mathlib.Core.List.{List, ◌++◌}
use native.Mathlib.Nat.{lt_of_lt_of_le}
use native.Mathlib.Omega.{arith}
use lib.Dec.{eqb}
use lib.ListN.{get_or, set, drop}
use borrow.Author.Tests.{lt-ltb}
use Rattle.tables.specs.Words.{parent}
use Rattle.tables.specs.Documents.{Doc, mark, present, Sound}
use Rattle.selection.specs.Lists.{tab, count}
use Rattle.selection.specs.Ways.{up, sel, selected}
use Rattle.selection.specs.Operations.{hits, struck, deleted, removed}
use Rattle.selection.proofs.Up.{up_top, way_node}
use Rattle.selection.proofs.Filling.{row_start, row_more, row_new, row_old, row_end}
use Rattle.doc_updates.specs.Asking.{Chosen}
use Rattle.doc_delete.specs.Striking.{strikes, Strikable, Strikes}
use Rattle.doc_updates.proofs.Bits.{bit_flag}
use Rattle.doc_updates.proofs.Counting.{count_start, count-on, count_end}

module _ (p : List ℕ) (d : Doc) (sound : Sound d) where
  hits-root : hits p (up d.rows 0) ≡ sel p (up d.rows 0)
  unfolding hits
  hits-root = rw (up_top d.rows, or-false)

  hits_node : (v : ℕ) → 0 < v → v < d.used → hits p (up d.rows v) ≡ (sel p (up d.rows v) || hits p (up d.rows (parent d.rows v)))
  unfolding hits
  hits_node v h b = rw (way_node sound v h b)

  above_struck : (v : ℕ) → 0 < v → present d v ≡ true → struck p d (parent d.rows v) ≡ hits p (up d.rows (parent d.rows v))
  unfolding struck
  above_struck v h e = rw (sound.closed v h e)

  both_same : (s : Bool) → (s || s) ≡ s
  both_same true = refl
  both_same false = refl

  -- of a present node: selected there, or struck above
  hit_present : (v : ℕ) → v < d.used → present d v ≡ true → (a : Bool) → (v ≡ 0 → a ≡ selected p d v) → (0 < v → a ≡ struck p d (parent d.rows v)) →
      (selected p d v || a) ≡ struck p d v
  unfolding struck selected
  hit_present zero b e a root above = rw (root refl, e, hits-root, both_same)
  hit_present (suc v) b e a root above =
      rw (above (omega arith), above_struck (suc v) (omega arith) e, e, hits_node (suc v) (omega arith) b)

  -- what the code asks of a used node
  pub hit_used : (v : ℕ) → v < d.used → (a : Bool) → (v ≡ 0 → a ≡ selected p d v) → (0 < v → a ≡ struck p d (parent d.rows v)) →
      (eqb (mark d v) 0 && (selected p d v || a)) ≡ struck p d v
  unfolding struck
  hit_used v b a root above = go (eqb (mark d v) 0) refl
    where
      go : (m : Bool) → eqb (mark d v) 0 ≡ m → (m && (selected p d v || a)) ≡ struck p d v
      go true e = hit_present v b (rw (lt-ltb v d.used b, e)) a root above
      go false e = rw (e, and-false)

-- struck up to v: bytes, marks and their number
pub record StruckTo (p : List ℕ) (d : Doc) (old : List ℕ) (v : ℕ) (row marks : List ℕ) (n : ℕ) : Type 0 where
  pub bytes : row ≡ tab (λ u. cond (struck p d u) 1 0) v ++ drop v old
  pub marked : marks ≡ tab (λ u. cond (struck p d u) 1 (mark d u)) v ++ drop v d.marks
  pub number : n ≡ count (struck p d) v

pub strike_start : (d : Doc) (row : List ℕ) (p : List ℕ) → StruckTo p d row 0 row d.marks 0
strike_start d row p = record {
  bytes = row_start (λ u. cond (struck p d u) 1 0) row;
  marked = row_start (λ u. cond (struck p d u) 1 (mark d u)) d.marks;
  number = count_start (struck p d);
}

-- one turn of the pass
module _ (d : Doc) (old : List ℕ) (can : Strikable d old) (v : ℕ) (h : v < d.used) where
  module _ (p : List ℕ) (chosen : Chosen p d old) {row marks : List ℕ} {n : ℕ} (done : StruckTo p d old v row marks n) where
    own_is : get_or row v 0 ≡ cond (selected p d v) 1 0
    own_is = row_old (λ u. cond (struck p d u) 1 0) old v done.bytes v (omega arith) ∙ chosen v h

    above_root : v ≡ 0 → eqb (get_or row (parent d.rows v) 0) 1 ≡ selected p d v
    above_root z =
        let same : parent d.rows v ≡ v = rw z can.sound.top in
        rw (same, own_is) (bit_flag (selected p d v))

    above_node : 0 < v → eqb (get_or row (parent d.rows v) 0) 1 ≡ struck p d (parent d.rows v)
    above_node k =
        rw (row_new (λ u. cond (struck p d u) 1 0) old v done.bytes (parent d.rows v) (can.sound.parents v k h))
        (bit_flag (struck p d (parent d.rows v)))

    mark_is : get_or marks v 0 ≡ mark d v
    mark_is = row_old (λ u. cond (struck p d u) 1 (mark d u)) d.marks v done.marked v (omega arith)

    module _ {own u above hit : ℕ} (o : own ≡ get_or row v 0) (q : u ≡ parent d.rows v) (a : above ≡ get_or row u 0)
        (w : hit ≡ strikes (get_or marks v 0) own above) where
      hit_is : hit ≡ cond (struck p d v) 1 0
      unfolding strikes
      hit_is =
          let same : (eqb (get_or marks v 0) 0 && (eqb own 1 || eqb above 1)) ≡ struck p d v =
          rw (mark_is, o, own_is, bit_flag, a, q) (hit_used p d can.sound v h (eqb (get_or row (parent d.rows v) 0) 1) above_root above_node)
          in w ∙ rw same

      pub strike_more : {m : ℕ} → m ≡ cond (eqb hit 1) 1 (get_or marks v 0) → StruckTo p d old (v + 1) (set row v hit) (set marks v m) (n + hit)
      strike_more e = record {
        bytes = row_more (λ u. cond (struck p d u) 1 0) old v done.bytes (lt_of_lt_of_le h can.bytes) hit_is;
        marked = row_more (λ u. cond (struck p d u) 1 (mark d u)) d.marks v done.marked (lt_of_lt_of_le h can.marks)
            (e ∙ rw (hit_is, bit_flag (struck p d v), mark_is));
        number = count-on (struck p d) v done.number hit_is;
      }

-- a pass over all used nodes is a delete
pub strike_end : (d : Doc) (old : List ℕ) {row marks : List ℕ} {n : ℕ} (v : ℕ) → v ≤ d.used → d.used ≤ v →
    ((p : List ℕ) → Chosen p d old → StruckTo p d old v row marks n) → Strikes d old marks n
unfolding deleted removed
strike_end d old v h l done =
    record {
      marks = λ p chosen. row_end (λ u. cond (struck p d u) 1 (mark d u)) d.marks v (done p chosen).marked d.used h l;
      number = λ p chosen. count_end (struck p d) v (done p chosen).number d.used h l;
    }
