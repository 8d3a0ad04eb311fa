-- The levels that are held behind one byte more.
use Prim.Native.Nat.{ℕ, suc, ◌+◌, ◌-◌, ◌<◌, ◌≤◌}
use mathlib.Core.Path.{◌≡◌, refl, sym, ◌∙◌}
use mathlib.Core.Bool.{Bool, true, false, cond, false≢true}
use mathlib.Core.List.{List, ◌∷◌}
use native.Mathlib.Omega.{arith}
use borrow.Author.Tests.{ne_eqb, eqb-true, ltb-true}
use lib.Dec.{eqb}
use lib.ListN.{length, get_or, take}
use Rattle.tables.specs.Limits.{word_limit}
use Rattle.text_xml_form.specs.Scan.{fits, goes, goes_further, ends_on, is_digit, stage_on, number_on, depth_on, open_on, outer, standing}
use Rattle.text_xml_in.specs.Levels.{held_levels, held_at, Held, noted, low_on, StandsAt, Scans, Byte, Recallable}
use Rattle.text_xml_in.proofs.Branches.{depth_same}
use Rattle.text_xml_in.proofs.Standing.{stands_depth, stands_small, stands_opened, stands_next}
use Rattle.text_xml_in.proofs.Holding.{held_more, held_less, held_innermost}

-- a label is asked for only in the name of an end tag
fits-any : (q v l k d c : ℕ) → eqb q 5 ≡ false → fits q v l d c ≡ fits q v k d c
unfolding fits
fits-any q v l k d c n = rw n

-- where the innermost level is held, so the label in the row is the element's
pub fits-held : {s : List ℕ} {i q v d low : ℕ} {row : List ℕ} → Scans s i q v d low row → (c : ℕ)
    → fits q v (get_or row (held_at (d - 1)) 0) d c ≡ goes (standing (take i s)) c
unfolding goes
fits-held {s} {i} {q} {v} {d} {low} {row} here c = rw (here.at.stage, here.at.number, here.at.depth) (go (eqb q 5) refl)
  where
    ls : List ℕ
    ls = (standing (take i s)).opened

    go : (b : Bool) → eqb q 5 ≡ b → fits q v (get_or row (held_at (d - 1)) 0) d c ≡ fits q v (get_or ls 0 0) d c
    go false n = fits-any q v (get_or row (held_at (d - 1)) 0) (get_or ls 0 0) d c n
    go true e =
        let five = eqb-true q 5 e in
        let same = held_innermost here.held (omega (arith, here.at.depth, here.closing (omega arith) (omega arith))) in
        rw (← here.at.depth, same)

-- `n` behind `</`, or behind `<`
name-behind : (q v l d : ℕ) → fits q v l d 110 ≡ true → eqb q 1 ≡ false → q ≡ 4
unfolding fits goes_further ends_on is_digit
name-behind q v l d e n = go (eqb q 0) (eqb q 2) (eqb q 3) (eqb q 4) (eqb q 5) (eqb q 6) refl (rw n at e)
  where
    go : (a f g h i j : Bool) → eqb q 4 ≡ h
        → cond a false (cond f false (cond g false (cond h true (cond i false (cond j false false))))) ≡ true → q ≡ 4
    go true f g h i j k p = absurd (false≢true p)
    go false true g h i j k p = absurd (false≢true p)
    go false false true h i j k p = absurd (false≢true p)
    go false false false true i j k p = eqb-true q 4 k
    go false false false false true j k p = absurd (false≢true p)
    go false false false false false true k p = absurd (false≢true p)
    go false false false false false false k p = absurd (false≢true p)

-- `/` behind `<` only where an element is open
slash-behind : (q v l d : ℕ) → fits q v l d 47 ≡ true → q ≡ 1 → 0 < d
unfolding fits
slash-behind q v l d e k = ltb-true 0 d (rw k at e)

module _ {s : List ℕ} {i q v c d low : ℕ} {row : List ℕ} (here : Scans s i q v d low row) (byte : Byte s i q v c d row) where
  abbrev ls : List ℕ
  ls = (standing (take i s)).opened

  pub keep_small : (v < word_limit) × (length row ≡ held_levels)
  keep_small = (stands_small s i q v d here.at, here.held.long)

  pub keep_depth : d < length s
  keep_depth = omega (arith, stands_depth s i q v d here.at, byte.here)

  pub keep_low : low ≤ d
  keep_low = omega (arith, here.held.within, here.at.depth)

  pub keep_recall : Recallable s i d row
  keep_recall = record { within = here.at.within; on = rw here.at.stage here.at.on; depth = here.at.depth; long = here.held.long }

  goes_on : goes (standing (take i s)) c ≡ true
  goes_on = sym (fits-held here c) ∙ byte.fit

  at_next : StandsAt s (suc i) (stage_on q c) (number_on v c) (depth_on q c d)
  at_next = stands_next s i q v d here.at byte.here byte.is goes_on

  opened_next : (standing (take (suc i) s)).opened ≡ open_on q v c ls
  opened_next = stands_opened s i q v d here.at byte.here byte.is goes_on

  -- behind `>`
  module _ (is : c ≡ 62) where
    held_next : Held (noted q v c d (d + 1) row) (low_on q d low) (open_on q v c ls)
    unfolding noted low_on open_on
    held_next = rw (is, ← here.at.depth) (go (eqb q 2) (eqb q 5) refl refl)
      where
        go : (a b : Bool) → eqb q 2 ≡ a → eqb q 5 ≡ b → Held (noted q v 62 (length ls) (length ls + 1) row) (low_on q (length ls) low) (cond a (v ∷ ls) (cond b (outer ls) ls))
        go true b e f = rw (eqb-true q 2 e) (held_more v here.held)
        go false true e f = let five = eqb-true q 5 f in rw e (held_less ls (omega (arith, here.at.depth, here.closing (omega arith) (omega arith))) here.held)
        go false false e f = rw e here.held

    pub keep_tag : {next : List ℕ} {r : ℕ} → next ≡ noted q v c d (d + 1) row → r ≡ low_on q d low
        → Scans s (suc i) (stage_on q c) (number_on v c) (depth_on q c d) r next
    unfolding stage_on
    keep_tag {next} {r} a b = record {
      at = at_next;
      held = rw (opened_next, a, b) held_next;
      closing = λ x y. let z : 6 ≤ 5 = rw is at y in absurd (omega arith);
    }

  -- behind any other byte nothing is opened or closed
  module _ (not : c ≡ 62 → ⊥) where
    open_same : open_on q v c ls ≡ ls
    unfolding open_on
    open_same = rw (ne_eqb c 62 not)

    same : {r : ℕ} {next : List ℕ} → Held next r ls → (4 ≤ stage_on q c → stage_on q c ≤ 5 → r < d) → Scans s (suc i) (stage_on q c) (number_on v c) (depth_on q c d) r next
    same held closing = record {
      at = at_next;
      held = rw (opened_next, open_same) held;
      closing = λ x y. rw (← depth_same q c d not) (closing x y);
    }

    pub keep_slash : c ≡ 47 → {r : ℕ} {next : List ℕ} → Held next r ls → (q ≡ 1 → 0 < d → r < d) → Scans s (suc i) (stage_on q c) (number_on v c) (depth_on q c d) r next
    unfolding stage_on
    keep_slash is {r} held inner = same held (closing (eqb q 1) refl)
      where
        closing : (b : Bool) → eqb q 1 ≡ b → 4 ≤ stage_on q c → stage_on q c ≤ 5 → r < d
        closing true e x y = let one = eqb-true q 1 e in inner one (slash-behind q v (get_or row (held_at (d - 1)) 0) d (rw is at byte.fit) one)
        closing false e x y = let z : 4 ≤ 3 = rw (is, e) at x in absurd (omega arith)

    pub keep_other : (c ≡ 47 → ⊥) → Scans s (suc i) (stage_on q c) (number_on v c) (depth_on q c d) low row
    unfolding stage_on
    keep_other n = same here.held (closing (eqb c 60) (eqb c 110) (eqb q 1) refl refl refl)
      where
        closing : (a b e : Bool) → eqb c 60 ≡ a → eqb c 110 ≡ b → eqb q 1 ≡ e → 4 ≤ stage_on q c → stage_on q c ≤ 5 → low < d
        closing true b e f g h x y = let z : 4 ≤ 1 = rw (ne_eqb c 62 not, f) at x in absurd (omega arith)
        closing false true true f g h x y = let z : 4 ≤ 2 = rw (ne_eqb c 62 not, f, ne_eqb c 47 n, g, h) at x in absurd (omega arith)
        closing false true false f g h x y =
            let four = name-behind q v (get_or row (held_at (d - 1)) 0) d (rw (eqb-true c 110 g) at byte.fit) h in
            here.closing (omega arith) (omega arith)
        closing false false e f g h x y =
            here.closing (rw (ne_eqb c 62 not, f, ne_eqb c 47 n, g) at x) (rw (ne_eqb c 62 not, f, ne_eqb c 47 n, g) at y)

-- gone through again, all levels are held that can be
module _ (q d : ℕ) (row ls : List ℕ) (held : Held row (d - held_levels) ls) where
  pub inner_few : d < held_levels → Held row 0 ls × (q ≡ 1 → 0 < d → 0 < d)
  inner_few h =
      let none : d - held_levels ≡ 0 = omega arith in
      (rw none at held, λ e some. some)

  pub inner_many : Held row (d - held_levels) ls × (q ≡ 1 → 0 < d → d - held_levels < d)
  inner_many = (held, λ e some. omega arith)
