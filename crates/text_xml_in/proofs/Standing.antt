-- Where a text stands behind one byte more.
use Prim.Native.Nat.{ℕ, zero, suc, ◌+◌, ◌-◌, ◌<◌, ◌≤◌}
use mathlib.Core.Path.{◌≡◌, refl, sym, ap, ◌∙◌}
use mathlib.Core.Bool.{Bool, true, false, ◌&&◌, ◌||◌, cond, false≢true}
use mathlib.Core.List.{List, [], ◌∷◌, ◌++◌}
use native.Mathlib.Omega.{arith}
use native.Mathlib.Nat.{le_trans}
use lib.Dec.{eqb, ltb, lit<}
use lib.ListN.{length, get_or, take, drop, take-append-drop, length-take}
use lib.Seq.{take-suc, take-take}
use borrow.Author.Tests.{eqb-true, lt-ltb}
use Rattle.tables.specs.Limits.{word_limit}
use Rattle.selection.proofs.Runs.{both, either}
use Rattle.text_parts.specs.Scans.{scanned}
use Rattle.text_parts.proofs.Starts.{scanned-append, off_stays}
use Rattle.text_xml_form.specs.Scan.{Stand, stand, is_digit, further, leads, goes_further, ends_on, fits, stage_on, number_on, outer, open_on, depth_on, lost, goes, next, on, standing}
use Rattle.text_xml_form.proofs.Names.{of-label, of_digit, of-leads}
use Rattle.text_xml_form.proofs.Steps.{next-on, off_next}
use Rattle.text_xml_in.specs.Levels.{StandsAt}

-- one byte more
pub standing-next : (s : List ℕ) (i : ℕ) → i < length s → standing (take (suc i) s) ≡ next (standing (take i s)) (get_or s i 0)
unfolding standing scanned
standing-next s i h = rw (take-suc s i 0 h) (scanned-append next (stand 0 0 []) (take i s) (get_or s i 0 ∷ []))

pub next-goes : (x : Stand) (c : ℕ) → goes x c ≡ true → next x c ≡ stand (stage_on x.stage c) (number_on x.number c) (open_on x.stage x.number c x.opened)
unfolding goes
next-goes x c e = next-on x.stage x.number x.opened c e

pub next_stops : (x : Stand) (c : ℕ) → goes x c ≡ false → next x c ≡ lost
unfolding next
next_stops x c e = rw e

-- a text that is right so far was right before
pub on-before : (s : List ℕ) (i j : ℕ) → j ≤ i → on (standing (take i s)) ≡ true → on (standing (take j s)) ≡ true
unfolding standing
on-before s i j h e = go (on (scanned next (stand 0 0 []) (take j s))) refl
  where
    split : take j s ++ drop j (take i s) ≡ take i s
    split = rw (take-take j i s h) at (take-append-drop j (take i s))

    go : (b : Bool) → on (scanned next (stand 0 0 []) (take j s)) ≡ b → b ≡ true
    go true k = refl
    go false k = absurd (false≢true (sym (off_stays next on off_next (scanned next (stand 0 0 []) (take j s)) (drop j (take i s)) k) ∙ rw (← scanned-append next (stand 0 0 []) (take j s) (drop j (take i s)), split) e))

-- what each byte keeps holds throughout
module _ (P : Stand → Type 0) (keeps : (x : Stand) (c : ℕ) → P x → P (next x c)) where
  kept_from : (x : Stand) (s : List ℕ) → P x → P (scanned next x s)
  unfolding scanned
  kept_from x [] h = h
  kept_from x (c ∷ s) h = kept_from (next x c) s (keeps x c h)

  kept : (s : List ℕ) → P (stand 0 0 []) → P (standing s)
  unfolding standing
  kept s h = kept_from (stand 0 0 []) s h

-- a digit goes on only in a name
module _ {C : Type 0} (q v l d c : ℕ) (is : is_digit c ≡ true) (name : goes_further v c ≡ true → C) (end_name : ends_on v l c ≡ true → C) where
  digit_not : (n : ℕ) → (48 ≤ n → n ≤ 57 → ⊥) → eqb c n ≡ true → C
  digit_not n out e = absurd (out (omega (arith, of_digit c is, eqb-true c n e)) (omega (arith, of_digit c is, eqb-true c n e)))

  digit_goes : fits q v l d c ≡ true → C
  unfolding fits
  digit_goes = go (eqb q 0) (eqb q 1) (eqb q 2) (eqb q 3) (eqb q 4) (eqb q 5) (eqb q 6)
    where
      go : (a b e f g h i : Bool)
          → cond a (eqb c 60) (cond b (eqb c 110 || (eqb c 47 && ltb 0 d)) (cond e (goes_further v c) (cond f (eqb c 62) (cond g (eqb c 110) (cond h (ends_on v l c) (cond i (eqb c 60 && ltb 0 d) false)))))) ≡ true → C
      go true b e f g h i p = digit_not 60 (λ a b. omega arith) p
      go false true e f g h i p = either (eqb c 110) (eqb c 47 && ltb 0 d) p (digit_not 110 (λ a b. omega arith)) (λ r. both (eqb c 47) (ltb 0 d) r (λ x y. digit_not 47 (λ a b. omega arith) x))
      go false false true f g h i p = name p
      go false false false true g h i p = digit_not 62 (λ a b. omega arith) p
      go false false false false true h i p = digit_not 110 (λ a b. omega arith) p
      go false false false false false true i p = end_name p
      go false false false false false false true p = both (eqb c 60) (ltb 0 d) p (λ x y. digit_not 60 (λ a b. omega arith) x)
      go false false false false false false false p = absurd (false≢true p)

-- a number stays below 65,536
leads-small : (w l : ℕ) → leads w l ≡ true → l < word_limit → w < word_limit
leads-small w l e h = of-leads w l (λ x y. omega arith) (λ x y. omega arith) (λ x y. omega arith) (λ x y. omega arith) (λ x y. omega arith) e

module _ (v l c : ℕ) (is : is_digit c ≡ true) where
  name-small : goes_further v c ≡ true → further v c < word_limit
  unfolding goes_further
  name-small p = (of-label (further v c) (rw is at p)).1

  end_small : l < word_limit → ends_on v l c ≡ true → further v c < word_limit
  unfolding ends_on
  end_small h p = leads-small (further v c) l (rw is at p) h

number_small : (q v l d c : ℕ) → v < word_limit → l < word_limit → fits q v l d c ≡ true → number_on v c < word_limit
unfolding number_on
number_small q v l d c hv hl e = go (eqb c 110) (is_digit c) refl
  where
    go : (a b : Bool) → is_digit c ≡ b → cond a 0 (cond b (further v c) v) < word_limit
    go true b k = lit< tt
    go false true k = digit_goes q v l d c k (name-small v l c k) (end_small v l c k hl) e
    go false false k = hv

-- and so do all labels of open elements
pub record Small (x : Stand) : Type 0 where
  pub number : x.number < word_limit
  pub labels : (k : ℕ) → get_or x.opened k 0 < word_limit

outer-small : (ls : List ℕ) → ((k : ℕ) → get_or ls k 0 < word_limit) → (k : ℕ) → get_or (outer ls) k 0 < word_limit
outer-small [] h k = h k
outer-small (l ∷ ls) h k = h (suc k)

more_small : (v : ℕ) (ls : List ℕ) → v < word_limit → ((k : ℕ) → get_or ls k 0 < word_limit) → (k : ℕ) → get_or (v ∷ ls) k 0 < word_limit
more_small v ls hv h zero = hv
more_small v ls hv h (suc k) = h k

open_small : (q v c : ℕ) (ls : List ℕ) → v < word_limit → ((k : ℕ) → get_or ls k 0 < word_limit) → (k : ℕ) → get_or (open_on q v c ls) k 0 < word_limit
unfolding open_on
open_small q v c ls hv h k = go (eqb c 62) (eqb q 2) (eqb q 5)
  where
    go : (a b d : Bool) → get_or (cond a (cond b (v ∷ ls) (cond d (outer ls) ls)) ls) k 0 < word_limit
    go true true d = more_small v ls hv h k
    go true false true = outer-small ls h k
    go true false false = h k
    go false b d = h k

small-next : (x : Stand) (c : ℕ) → Small x → Small (next x c)
unfolding next goes
small-next x c h = go (fits x.stage x.number (get_or x.opened 0 0) (length x.opened) c) refl
  where
    go : (b : Bool) → fits x.stage x.number (get_or x.opened 0 0) (length x.opened) c ≡ b
        → Small (cond b (stand (stage_on x.stage c) (number_on x.number c) (open_on x.stage x.number c x.opened)) lost)
    go true e = record {
      number = number_small x.stage x.number (get_or x.opened 0 0) (length x.opened) c h.number (h.labels 0) e;
      labels = open_small x.stage x.number c x.opened h.number h.labels;
    }
    go false e = record { number = lit< tt; labels = λ k. lit< tt }

pub standing-small : (s : List ℕ) → Small (standing s)
standing-small s = kept Small small-next s (record { number = lit< tt; labels = λ k. lit< tt })

-- how many elements are open
pub open_depth : (q v c : ℕ) (ls : List ℕ) → length (open_on q v c ls) ≡ depth_on q c (length ls)
unfolding open_on depth_on
open_depth q v c ls = go (eqb c 62) (eqb q 2) (eqb q 5)
  where
    less : (ls : List ℕ) → length (outer ls) ≡ length ls - 1
    less [] = refl
    less (l ∷ ls) = omega arith

    go : (a b d : Bool) → length (cond a (cond b (v ∷ ls) (cond d (outer ls) ls)) ls) ≡ cond a (cond b (suc (length ls)) (cond d (length ls - 1) (length ls))) (length ls)
    go true true d = refl
    go true false true = less ls
    go true false false = refl
    go false b d = refl

depth_one : (q c d : ℕ) → depth_on q c d ≤ suc d
unfolding depth_on
depth_one q c d = go (eqb c 62) (eqb q 2) (eqb q 5)
  where
    go : (a b e : Bool) → cond a (cond b (suc d) (cond e (d - 1) d)) d ≤ suc d
    go true true e = omega arith
    go true false true = omega arith
    go true false false = omega arith
    go false b e = omega arith

depth_next : (x : Stand) (c : ℕ) → length (next x c).opened ≤ suc (length x.opened)
unfolding next
depth_next x c = go (goes x c)
  where
    go : (b : Bool) → length (cond b (stand (stage_on x.stage c) (number_on x.number c) (open_on x.stage x.number c x.opened)) lost).opened ≤ suc (length x.opened)
    go true = rw (open_depth x.stage x.number c x.opened) (depth_one x.stage c (length x.opened))
    go false = omega arith

depth_from : (x : Stand) (s : List ℕ) → length (scanned next x s).opened ≤ length x.opened + length s
unfolding scanned
depth_from x [] = omega arith
depth_from x (c ∷ s) = le_trans (depth_from (next x c) s) (omega (arith, depth_next x c))

pub standing_depth : (s : List ℕ) (i : ℕ) → length (standing (take i s)).opened ≤ i
unfolding standing
standing_depth s i = omega (arith, depth_from (stand 0 0 []) (take i s), length-take i s)

-- a stage that goes on stays below 7
stage-on : (q c : ℕ) → q < 7 → stage_on q c < 7
unfolding stage_on
stage-on q c h = go (eqb c 62) (eqb c 60) (eqb c 47) (eqb c 110) (eqb q 1)
  where
    go : (a b d e f : Bool) → cond a 6 (cond b 1 (cond d (cond f 4 3) (cond e (cond f 2 5) q))) < 7
    go true b d e f = lit< tt
    go false true d e f = lit< tt
    go false false true e true = lit< tt
    go false false true e false = lit< tt
    go false false false true true = lit< tt
    go false false false true false = lit< tt
    go false false false false f = h

pub stands_start : (s : List ℕ) → StandsAt s 0 0 0 0
unfolding standing scanned
stands_start s = record { within = omega arith; stage = refl; number = refl; depth = refl; on = lit< tt }

module _ (s : List ℕ) (i q v d : ℕ) (at : StandsAt s i q v d) where
  pub stands_on_lem : on (standing (take i s)) ≡ true
  unfolding on
  stands_on_lem = rw at.stage (lt-ltb q 7 at.on)

  pub stands_small : v < word_limit
  stands_small = rw at.number at (standing-small (take i s)).number

  pub stands_depth : d ≤ i
  stands_depth = rw at.depth at (standing_depth s i)

  module _ (h : i < length s) {c : ℕ} (is : c ≡ get_or s i 0) (goes_on : goes (standing (take i s)) c ≡ true) where
    next_is : standing (take (suc i) s) ≡ stand (stage_on q c) (number_on v c) (open_on q v c (standing (take i s)).opened)
    next_is =
        let x = standing (take i s) in
        let moved : stand (stage_on x.stage c) (number_on x.number c) (open_on x.stage x.number c x.opened) ≡ stand (stage_on q c) (number_on v c) (open_on q v c x.opened) = rw (at.stage, at.number) in
        standing-next s i h ∙ (ap (next x) (sym is) ∙ (next-goes x c goes_on ∙ moved))

    pub stands_opened : (standing (take (suc i) s)).opened ≡ open_on q v c (standing (take i s)).opened
    stands_opened = ap (λ x. x.opened) next_is

    pub stands_next : StandsAt s (suc i) (stage_on q c) (number_on v c) (depth_on q c d)
    stands_next = record {
      within = h;
      stage = ap (λ x. x.stage) next_is;
      number = ap (λ x. x.number) next_is;
      depth = rw (stands_opened, ← at.depth) (open_depth q v c (standing (take i s)).opened);
      on = stage-on q c at.on;
    }

-- each byte of a text that is right as far as i goes on
pub goes_before : (s : List ℕ) (i j : ℕ) → j < i → i ≤ length s → on (standing (take i s)) ≡ true → goes (standing (take j s)) (get_or s j 0) ≡ true
unfolding on
goes_before s i j h k e = go (goes (standing (take j s)) (get_or s j 0)) refl
  where
    on-next : on (next (standing (take j s)) (get_or s j 0)) ≡ true
    on-next = rw (← standing-next s j (omega arith)) (on-before s i (suc j) h e)

    go : (b : Bool) → goes (standing (take j s)) (get_or s j 0) ≡ b → b ≡ true
    go true f = refl
    go false f = rw (next_stops (standing (take j s)) (get_or s j 0) f) at on-next
