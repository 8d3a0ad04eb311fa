-- A delete keeps the nodes that are not selected and have none selected above, with their ways; it leaves a sound document sound and counts what it removes.
use Prim.Native.Nat.{ℕ, zero, suc, pred, ◌+◌, ◌<◌, ◌≤◌}
use mathlib.Core.Path.{◌≡◌, refl}
use mathlib.Core.Bool.{Bool, true, false, ◌&&◌, ◌||◌, not, cond, and_comm, and-false, or-false, true≢false}
use mathlib.Core.List.{List, [], ◌∷◌}
use native.Mathlib.Omega.{arith}
use borrow.Author.Tests.{ltb-true, not-true}
use lib.Dec.{ltb, eqb}
use lib.ListN.{length, drop}
use Rattle.tables.specs.Words.{steps, parent, tag}
use Rattle.tables.specs.Documents.{Doc, mark, present, Sound}
use Rattle.selection.specs.Lists.{count}
use Rattle.selection.specs.Ways.{up, sel, run, runs, takes, stays, selected}
use Rattle.selection.specs.Operations.{hits, struck, deleted, removed}
use Rattle.selection.proofs.Lists.{get_or-tab-before, get_or-tab-behind, length-tab-drop, count_ext, count_split}
use Rattle.selection.proofs.Presence.{present_used}
use Rattle.selection.proofs.Runs.{both}
use Rattle.selection.proofs.Up.{up_top, way_node}

-- the tree table and the used count stay
pub deleted_rows : (p : List ℕ) (d : Doc) → (deleted p d).rows ≡ d.rows
unfolding deleted
deleted_rows p d = refl

pub deleted_used : (p : List ℕ) (d : Doc) → (deleted p d).used ≡ d.used
unfolding deleted
deleted_used p d = refl

-- a used node's mark is 1 where struck and as before elsewhere
pub deleted-mark : (p : List ℕ) (d : Doc) (v : ℕ) → v < d.used → mark (deleted p d) v ≡ cond (struck p d v) 1 (mark d v)
unfolding deleted
deleted-mark p d = get_or-tab-before (λ u. cond (struck p d u) 1 (mark d u)) d.used (drop d.used d.marks)

-- marks behind the used nodes stay
pub deleted-behind : (p : List ℕ) (d : Doc) (v : ℕ) → d.used ≤ v → mark (deleted p d) v ≡ mark d v
unfolding deleted
deleted-behind p d = get_or-tab-behind (λ u. cond (struck p d u) 1 (mark d u)) d.used d.marks

-- and so does the length of the row of marks
pub deleted-length : (p : List ℕ) (d : Doc) → d.used ≤ length d.marks → length (deleted p d).marks ≡ length d.marks
unfolding deleted
deleted-length p d = length-tab-drop (λ u. cond (struck p d u) 1 (mark d u)) d.used d.marks

-- present after: present before, and neither selected nor below a selected node
pub present-deleted : (p : List ℕ) (d : Doc) (v : ℕ) → present (deleted p d) v ≡ (present d v && not (hits p (up d.rows v)))
unfolding deleted struck
present-deleted p d v =
    go (ltb v d.used) (hits p (up d.rows v)) (mark d v) (mark (deleted p d) v) (λ t. deleted-mark p d v (ltb-true v d.used t))
  where
    marked : (m : ℕ) (b hit : Bool) → eqb m 0 ≡ b → eqb (cond (b && hit) 1 m) 0 ≡ (b && not hit)
    marked m true true e = refl
    marked m true false e = e
    marked m false hit e = e

    go : (inside hit : Bool) (m after : ℕ) → (inside ≡ true → after ≡ cond (inside && eqb m 0 && hit) 1 m) → (inside && eqb after 0) ≡ (inside && eqb m 0 && not hit)
    go true hit m after e = rw (e refl) (marked m (eqb m 0) hit refl)
    go false hit m after e = refl

-- selected after: selected before, and neither selected by p nor below a node that p selects
pub deleted_selects : (r p : List ℕ) (d : Doc) (v : ℕ) → selected r (deleted p d) v ≡ (selected r d v && not (hits p (up d.rows v)))
unfolding selected deleted
deleted_selects r p d v = rw present-deleted (swap (present d v) (not (hits p (up d.rows v))) (sel r (up d.rows v)))
  where
    swap : (a b c : Bool) → (a && b && c) ≡ (a && c && b)
    swap true b c = and_comm b c
    swap false b c = refl

-- a pattern of two or more steps does not select at a way of one label
pub one_label : (p : List ℕ) → 1 < steps p → (l : ℕ) → hits p (l ∷ []) ≡ false
unfolding hits run runs
one_label p h l = go (pred (steps p)) (omega arith)
  where
    none : (a b : Bool) → ((a && false) || (b && false) || false) ≡ false
    none a b = simp (and-false, or-false)

    go : (i : ℕ) → 0 < i → (run p false i (l ∷ []) || false) ≡ false
    go zero k = absurd (omega arith)
    go (suc i) k = none (takes p (suc i) l) (stays p false (suc i))

-- what is hit stays hit below
pub hits_below : (p : List ℕ) (l : ℕ) (w : List ℕ) → hits p (l ∷ w) ≡ false → hits p w ≡ false
unfolding hits
hits_below p l w e = go (sel p (l ∷ w)) e
  where
    go : (b : Bool) → (b || hits p w) ≡ false → hits p w ≡ false
    go true q = absurd (true≢false q)
    go false q = q

-- present before equals present after plus removed
pub deleted-count : (p : List ℕ) (d : Doc) → count (present d) d.used ≡ count (present (deleted p d)) d.used + removed p d
unfolding removed struck
deleted-count p d = rw (count_ext (present (deleted p d)) (λ v. present d v && not (hits p (up d.rows v))) d.used (λ v h. present-deleted p d v))
    (count_split (present d) (λ v. hits p (up d.rows v)) d.used)

-- present before and not hit: present after
pub stays-present : (p : List ℕ) (d : Doc) (v : ℕ) → present d v ≡ true → hits p (up d.rows v) ≡ false → present (deleted p d) v ≡ true
stays-present p d v e q = rw (present-deleted p d v, e, q) refl

-- a delete by a pattern of two or more steps keeps a document sound
pub deleted_sound : (p : List ℕ) (d : Doc) → 1 < steps p → Sound d → Sound (deleted p d)
unfolding deleted
deleted_sound p d h s = record {
  room = s.room;
  root = stays-present p d 0 s.root (rw (up_top d.rows) (one_label p h (tag d.rows 0)));
  top = s.top;
  parents = s.parents;
  named = s.named;
  labels = s.labels;
  closed = closed;
}
  where
    closed : (v : ℕ) → 0 < v → present (deleted p d) v ≡ true → present (deleted p d) (parent d.rows v) ≡ true
    closed v k e = both (present d v) (not (hits p (up d.rows v))) (rw present-deleted at e) (λ before clear.
        stays-present p d (parent d.rows v) (s.closed v k before)
        (hits_below p (tag d.rows v) (up d.rows (parent d.rows v))
        (rw (way_node s v k (present_used d v before)) at (not-true (hits p (up d.rows v)) clear))))
