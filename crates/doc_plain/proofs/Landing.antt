-- Landing and reaching, branch by branch as the code asks them; the last step lands exactly where the pattern selects.
use Prim.Native.Nat.{ℕ, zero, suc, ◌+◌, ◌-◌, ◌<◌}
use mathlib.Core.Path.{◌≡◌, refl, sym, ◌∙◌, ap}
use mathlib.Core.Bool.{Bool, true, false, not, ◌&&◌, ◌||◌, cond, or-false, and-false}
use mathlib.Core.List.{List, [], ◌∷◌}
use native.Mathlib.Decide.{ℕ_discrete}
use native.Mathlib.Numerals.{sub-one}
use native.Mathlib.Omega.{arith}
use lib.Dec.{eqb}
use borrow.Author.Tests.{ne_eqb, lt-ltb, not-true, not-false}
use Rattle.tables.specs.Words.{steps, axis, label, nodes, parent, tag}
use Rattle.tables.specs.Documents.{bare}
use Rattle.selection.specs.Ways.{up, ups, empty, runs, run, takes, stays, last, selected}
use Rattle.selection.proofs.Up.{up_top, up_node}
use Rattle.selection.proofs.Runs.{stays-next, stays-last}
use Rattle.doc_plain.specs.Landing.{landed, reached, lands_on, reaches_to, Asked}

absorb : (b x y : Bool) → (b && (x || (b && y))) ≡ (b && (x || y))
absorb true x y = refl
absorb false x y = refl

module _ (take : ℕ → ℕ → Bool) (stay : ℕ → Bool) where
  -- a run in state i: its step landed at the nearest label, or, where the state may stay, further on
  pub runs-landed : (i : ℕ) (w : List ℕ) → runs take stay i w ≡ (landed take stay i w || (stay i && reached take stay i w))
  unfolding runs landed reached
  runs-landed i [] = sym (and-false (stay i))
  runs-landed zero (l ∷ w) =
      rw (runs-landed zero w)
      (ap (λ (b : Bool). (take 0 l && empty w) || b) (absorb (stay 0) (landed take stay 0 w) (reached take stay 0 w)))
  runs-landed (suc i) (l ∷ w) =
      rw (runs-landed (suc i) w)
      (ap (λ (b : Bool). (take (suc i) l && runs take stay i w) || b)
      (absorb (stay (suc i)) (landed take stay (suc i) w) (reached take stay (suc i) w)))

-- which labels agree
pub agrees-any : (p : List ℕ) (i l a : ℕ) → a ≡ label p i → a ≡ 0 → true ≡ takes p i l
agrees-any p i l a e z = rw (← e, z)

pub agrees-name : (p : List ℕ) (i l a b : ℕ) → a ≡ label p i → b ≡ l → (a ≡ 0 → ⊥) → eqb a b ≡ takes p i l
agrees-name p i l a b e f n = rw (← e, ← f, ne_eqb a 0 n)

-- a way begins with its node's own label
up_some : (t : List ℕ) (v : ℕ) (P : List ℕ → Type 0) → ((w : List ℕ) → P (tag t v ∷ w)) → P (up t v)
unfolding up ups
up_some t zero P f = f []
up_some t (suc v) P f = f (ups t (suc v) (parent t (suc v)))

landed-label : (take : ℕ → ℕ → Bool) (stay : ℕ → Bool) (i l : ℕ) (w : List ℕ) → take i l ≡ false → landed take stay i (l ∷ w) ≡ false
unfolding landed
landed-label take stay zero l w e = rw e
landed-label take stay (suc i) l w e = rw e

module _ (p t : List ℕ) where
  -- without its label a step does not land
  lands_label : (i v : ℕ) → takes p i (tag t v) ≡ false → lands_on p t i v ≡ false
  unfolding lands_on
  lands_label i v e =
      up_some t v (λ w. landed (takes p) (stays p false) i w ≡ false)
      (λ w. landed-label (takes p) (stays p false) i (tag t v) w e)

  -- on the root only the first step lands, and nothing reaches it
  lands_root : (i : ℕ) → lands_on p t i 0 ≡ (takes p i (tag t 0) && eqb i 0)
  unfolding lands_on landed runs
  lands_root zero = rw (up_top t)
  lands_root (suc i) = rw (up_top t, ne_eqb (suc i) 0 (λ z. omega arith))

  reaches_root : (i : ℕ) → reaches_to p t i 0 ≡ false
  unfolding reaches_to reached landed
  reaches_root i = rw (up_top t)

-- below the root
module _ (p t : List ℕ) (v : ℕ) (some : 0 < v) (way : up t v ≡ tag t v ∷ up t (parent t v)) where
  lands_first : lands_on p t 0 v ≡ false
  unfolding lands_on landed
  lands_first = rw way (up_some t (parent t v) (λ w. (takes p 0 (tag t v) && empty w) ≡ false) (λ w. and-false (takes p 0 (tag t v))))

  lands_next : (i j : ℕ) → i ≡ suc j → i < steps p → lands_on p t i v ≡ (takes p i (tag t v) && (lands_on p t j (parent t v) || (eqb (axis p i) 2 && reaches_to p t j (parent t v))))
  unfolding lands_on reaches_to landed
  lands_next i j e h =
      rw (e, way, runs-landed (takes p) (stays p false) j (up t (parent t v)), stays-next p false j (rw e at h))

  reaches_next : (i : ℕ) → reaches_to p t i v ≡ (lands_on p t i (parent t v) || reaches_to p t i (parent t v))
  unfolding lands_on reaches_to reached
  reaches_next i = rw way

-- the branches of `lands` at step i and node v
module _ (p t : List ℕ) (i v : ℕ) (asked : Asked p t i v) where
  way : (v ≡ 0 → ⊥) → up t v ≡ tag t v ∷ up t (parent t v)
  way n = up_node t (nodes t) asked.falls v (omega arith) asked.node

  module _ {flag : Bool} (agree : flag ≡ takes p i (tag t v)) where
    pub land_not : not flag ≡ true → false ≡ lands_on p t i v
    land_not e = sym (lands_label p t i v (sym agree ∙ not-true flag e))

    pub land_first : not flag ≡ false → i ≡ 0 → eqb v 0 ≡ lands_on p t i v
    land_first e z = rw z (go (ℕ_discrete v 0))
      where
        takes_it : takes p 0 (tag t v) ≡ true
        takes_it = rw z at (sym agree ∙ not-false flag e)

        go : Dec (v ≡ 0) → eqb v 0 ≡ lands_on p t 0 v
        go (yes q) = rw q (sym (lands_root p t 0 ∙ rw (rw q at takes_it)))
        go (no n) = ne_eqb v 0 n ∙ sym (lands_first p t v (omega arith) (way n))

    module _ (later : i ≡ 0 → ⊥) (below : v ≡ 0 → ⊥) (yes-label : not flag ≡ false) {above : ℕ} (up_one : above ≡ parent t v) {before : Bool} (was : before ≡ lands_on p t (i - 1) above) where
      next : lands_on p t i v ≡ (before || (eqb (axis p i) 2 && reaches_to p t (i - 1) above))
      next =
          lands_next p t v (omega arith) (way below) i (i - 1) (omega arith) asked.step
          ∙ rw (sym agree ∙ not-false flag yes-label, ← up_one, ← was)

      pub land_on : before ≡ true → true ≡ lands_on p t i v
      land_on e = sym (next ∙ rw e)

      module _ {a : ℕ} (is-axis : a ≡ axis p i) (no-land : before ≡ false) where
        pub land_child : (a ≡ 2 → ⊥) → false ≡ lands_on p t i v
        land_child n = sym (next ∙ rw (no-land, ← is-axis, ne_eqb a 2 n))

        pub land_reach : a ≡ 2 → {found : Bool} → found ≡ reaches_to p t (i - 1) above → found ≡ lands_on p t i v
        land_reach e f = f ∙ sym (next ∙ rw (no-land, ← is-axis, e))

  pub land_root : (i ≡ 0 → ⊥) → v ≡ 0 → false ≡ lands_on p t i v
  land_root n z = rw z (sym (lands_root p t i ∙ rw (ne_eqb i 0 n) (and-false (takes p i (tag t 0)))))

  -- the branches of `reaches`
  pub reach_root : v ≡ 0 → false ≡ reaches_to p t i v
  reach_root z = rw z (sym (reaches_root p t i))

  module _ (below : v ≡ 0 → ⊥) {above : ℕ} (up_one : above ≡ parent t v) {before : Bool} (was : before ≡ lands_on p t i above) where
    pub reach_on : before ≡ true → true ≡ reaches_to p t i v
    reach_on e = sym (reaches_next p t v (omega arith) (way below) i ∙ rw (← up_one, ← was, e))

    pub reach_more : before ≡ false → {found : Bool} → found ≡ reaches_to p t i above → found ≡ reaches_to p t i v
    reach_more e f = f ∙ sym (reaches_next p t v (omega arith) (way below) i ∙ rw (← up_one, ← was, e))

  -- what a call asks: the step plus the node number falls, and the node above is a node in turn
  module _ {n : ℕ} (sum : i + v ≡ n) (below : v ≡ 0 → ⊥) {above : ℕ} (up_one : above ≡ parent t v) where
    above_less : above < v
    above_less = omega (arith, asked.falls v (omega arith) asked.node)

    pub ask_same : (i + above < n) × Asked p t i above
    ask_same = (
      omega (arith, above_less),
      record { step = asked.step; node = omega (arith, above_less, asked.node); falls = asked.falls },
    )

    pub ask_before : (i ≡ 0 → ⊥) → (i - 1 + above < n) × Asked p t (i - 1) above
    ask_before later = (
      omega (arith, above_less),
      record { step = omega (arith, asked.step); node = omega (arith, above_less, asked.node); falls = asked.falls },
    )

-- the last step lands on v exactly if p selects v
pub lands_selected : (p t : List ℕ) (v : ℕ) → v < nodes t → lands_on p t (last p) v ≡ selected p (bare t) v
unfolding lands_on selected run
lands_selected p t v h =
    rw (lt-ltb v (nodes t) h)
    (sym (runs-landed (takes p) (stays p false) (last p) (up t v) ∙ rw (stays-last p false) (or-false _)))

-- the byte that the code writes
pub landed-bit : (p t : List ℕ) (v : ℕ) {found : Bool} {b : ℕ} → found ≡ lands_on p t (steps p - 1) v → b ≡ cond found 1 0 → b ≡ cond (lands_on p t (last p) v) 1 0
landed-bit p t v e q = rw (← sub-one (steps p), ← e) q
