-- The labels that are held: behind a byte, and when a text is gone through again.
use Prim.Native.Nat.{ℕ, suc, ◌+◌, ◌-◌, ◌<◌, ◌≤◌}
use mathlib.Core.Path.{◌≡◌, refl, ◌∙◌}
use mathlib.Core.Bool.{Bool, true, false, ◌&&◌, cond}
use mathlib.Core.List.{List, [], ◌∷◌}
use native.Mathlib.Omega.{arith}
use lib.Dec.{eqb, ltb, leb}
use lib.ListN.{length, get_or, set, length-set}
use lib.Seq.{get_or-set_same, get_or-set_other}
use borrow.Author.Tests.{eqb-true, eqb-false, ltb-true, ltb-false, leb-true, leb-false, lt-ltb}
use Rattle.selection.proofs.Lists.{below_suc}
use Rattle.text_xml_form.specs.Scan.{outer, open_on}
use Rattle.text_xml_in.specs.Levels.{held_levels, held_at, Held, noted, low_on}

-- of labels, the one of level k
abbrev level : List ℕ → ℕ → ℕ
level ls k = get_or ls (length ls - suc k) 0

level_more : (l : ℕ) (ls : List ℕ) (k : ℕ) → k < length ls → level (l ∷ ls) k ≡ level ls k
level_more l ls k h =
    let e : length (l ∷ ls) - suc k ≡ suc (length ls - suc k) = omega arith in
    rw e

level_new : (l : ℕ) (ls : List ℕ) (k : ℕ) → k ≡ length ls → level (l ∷ ls) k ≡ l
level_new l ls k h =
    let e : length (l ∷ ls) - suc k ≡ 0 = omega arith in
    rw e

-- levels from a on, below b, stand in a row
pub record Stand-from (row : List ℕ) (a b : ℕ) (ls : List ℕ) : Type 0 where
  pub long : length row ≡ held_levels
  pub labels : (k : ℕ) → a ≤ k → k < b → k < length ls → get_or row (held_at k) 0 ≡ level ls k

module _ {row : List ℕ} {a b : ℕ} {ls : List ℕ} (stand : Stand-from row a b ls) where
  -- one more, which no other has the place of
  from_more : (v : ℕ) → b ≤ a + held_levels → a ≤ length ls → length ls < b → Stand-from (set row (held_at (length ls)) v) a b (v ∷ ls)
  from_more v near low high = record { long = rw length-set stand.long; labels = labels }
    where
      labels : (k : ℕ) → a ≤ k → k < b → k < suc (length ls) → get_or (set row (held_at (length ls)) v) (held_at k) 0 ≡ level (v ∷ ls) k
      labels k x y z = below_suc k (length ls) z
          (λ l. rw (get_or-set_other row (held_at (length ls)) (held_at k) v 0 (λ e. omega arith), level_more v ls k l) (stand.labels k x y l))
          (λ e. rw (e, level_new v ls (length ls) refl) (get_or-set_same row (held_at (length ls)) v 0 (omega (arith, stand.long))))

  -- one more that is not wanted
  from_other : (v : ℕ) → (a ≤ length ls → length ls < b → ⊥) → Stand-from row a b (v ∷ ls)
  from_other v out = record {
    long = stand.long;
    labels = λ k x y z. below_suc k (length ls) z
        (λ l. rw (level_more v ls k l) (stand.labels k x y l))
        (λ e. absurd (out (omega arith) (omega arith)));
  }

from_less : {row : List ℕ} {a b : ℕ} (ls : List ℕ) → Stand-from row a b ls → Stand-from row a b (outer ls)
from_less [] stand = stand
from_less (l ∷ ls) stand = record {
  long = stand.long;
  labels = λ k x y z. stand.labels k x y (omega arith) ∙ level_more l ls k z;
}

-- behind a byte, at the depth that they have, all levels that can be held at depth b
pub from_next : {row : List ℕ} (q v c b : ℕ) (ls : List ℕ) → Stand-from row (b - held_levels) b ls → Stand-from (noted q v c (length ls) b row) (b - held_levels) b (open_on q v c ls)
unfolding noted open_on
from_next {row} q v c b ls stand = go (eqb c 62) (eqb q 2) (eqb q 5) (ltb (length ls) b) (leb (b - length ls) held_levels) refl refl
  where
    go : (d e f g h : Bool) → ltb (length ls) b ≡ g → leb (b - length ls) held_levels ≡ h
        → Stand-from (cond (d && (e && (g && h))) (set row (held_at (length ls)) v) row) (b - held_levels) b (cond d (cond e (v ∷ ls) (cond f (outer ls) ls)) ls)
    go true true f true true x y = from_more stand v (omega arith) (omega (arith, leb-true (b - length ls) held_levels y)) (ltb-true (length ls) b x)
    go true true f true false x y = from_other stand v (λ l m. omega (arith, leb-false (b - length ls) held_levels y))
    go true true f false h x y = from_other stand v (λ l m. omega (arith, ltb-false (length ls) b x))
    go true false true g h x y = from_less ls stand
    go true false false g h x y = stand
    go false e f g h x y = stand

-- nothing is wanted of no label
pub from_none : (row : List ℕ) (a b : ℕ) → length row ≡ held_levels → Stand-from row a b []
from_none row a b e = record { long = e; labels = λ k x y z. absurd (omega arith) }

-- all are held that can be
pub from_held : {row : List ℕ} {ls : List ℕ} (d : ℕ) → length ls ≡ d → Stand-from row (d - held_levels) d ls → Held row (d - held_levels) ls
from_held d e stand = record {
  long = stand.long;
  within = omega arith;
  few = omega arith;
  labels = λ k x y. stand.labels k x (omega arith) y;
}

-- what is held is what stands there
held_from : {row : List ℕ} {low : ℕ} {ls : List ℕ} → Held row low ls → (a b : ℕ) → low ≤ a → Stand-from row a b ls
held_from held a b h = record { long = held.long; labels = λ k x y z. held.labels k (omega arith) z }

-- a start tag: one more, and where there is no place left the lowest is given up
pub held_more : {row : List ℕ} {low : ℕ} {ls : List ℕ} (v : ℕ) → Held row low ls → Held (noted 2 v 62 (length ls) (length ls + 1) row) (low_on 2 (length ls) low) (v ∷ ls)
unfolding noted low_on
held_more {row} {low} {ls} v held = go (eqb (length ls - low) held_levels) refl
  where
    one : length ls + 1 - length ls ≡ 1
    one = omega arith

    now : cond (ltb (length ls) (length ls + 1) && leb (length ls + 1 - length ls) held_levels) (set row (held_at (length ls)) v) row ≡ set row (held_at (length ls)) v
    now = rw (lt-ltb (length ls) (length ls + 1) (omega arith), one)

    more : (a : ℕ) → low ≤ a → a ≤ length ls → length ls < a + held_levels → Held (set row (held_at (length ls)) v) a (v ∷ ls)
    more a x y z =
        let stand = from_more (held_from held a (suc (length ls)) x) v (omega arith) y (omega arith) in
        record {
          long = stand.long;
          within = omega arith;
          few = omega arith;
          labels = λ k p r. stand.labels k p r r;
        }

    go : (b : Bool) → eqb (length ls - low) held_levels ≡ b
        → Held (cond (ltb (length ls) (length ls + 1) && leb (length ls + 1 - length ls) held_levels) (set row (held_at (length ls)) v) row) (cond b (suc low) low) (v ∷ ls)
    go true e = rw now (more (suc low) (omega arith) (omega (arith, eqb-true (length ls - low) held_levels e)) (omega (arith, held.within, held.few)))
    go false e = rw now (more low (omega arith) held.within (omega (arith, eqb-false (length ls - low) held_levels e, held.within, held.few)))

-- an end tag: one less
pub held_less : {row : List ℕ} {low : ℕ} (ls : List ℕ) → low < length ls → Held row low ls → Held row low (outer ls)
held_less [] h held = absurd (omega arith)
held_less (l ∷ ls) h held = record {
  long = held.long;
  within = omega arith;
  few = omega (arith, held.few);
  labels = λ k x y. held.labels k x (omega arith) ∙ level_more l ls k y;
}

-- the innermost
pub held_innermost : {row : List ℕ} {low : ℕ} {ls : List ℕ} → Held row low ls → low < length ls → get_or row (held_at (length ls - 1)) 0 ≡ get_or ls 0 0
held_innermost {row} {low} {ls} held h =
    let e : length ls - suc (length ls - 1) ≡ 0 = omega arith in
    rw e at (held.labels (length ls - 1) (omega arith) (omega arith))
