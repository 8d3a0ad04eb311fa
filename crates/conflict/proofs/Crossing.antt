-- A run over y and then over w is a run over y that comes to a state, and a run over w in that state.
use Prim.Native.Nat.{ℕ, zero, suc, ◌<◌, ◌≤◌}
use native.Mathlib.Omega.{arith}
use mathlib.Core.Path.{◌≡◌, refl}
use mathlib.Core.Bool.{Bool, true, false, ◌&&◌, false≢true, or-true}
use mathlib.Core.List.{List, [], ◌∷◌, ◌++◌}
use borrow.Author.Tests.{eqb-true, eq-eqb}
use Rattle.selection.specs.Ways.{empty, runs, run, takes, stays, last, sel}
use Rattle.selection.proofs.Runs.{Run, step, pass, either, both, of-runs, to_runs, stays-last}
use Rattle.conflict.specs.Crossing.{over, goes_further}

-- the run over y as a relation: state k at its nearest label, state i left over at its end
pub data Over (take : ℕ → ℕ → Bool) (stay : ℕ → Bool) : ℕ → List ℕ → ℕ → Type 0 where
  cut : {k : ℕ} → Over take stay k [] k
  lands : {k l i : ℕ} {y : List ℕ} → take (suc k) l ≡ true → Over take stay k y i → Over take stay (suc k) (l ∷ y) i
  passes : {k l i : ℕ} {y : List ℕ} → stay k ≡ true → Over take stay k y i → Over take stay k (l ∷ y) i

-- a state in which the way below the cut leaves, and the way above it is run
pub record Crossing (leaves above : ℕ → Bool) : Type 0 where
  pub state : ℕ
  pub left : leaves state ≡ true
  pub rest : above state ≡ true

carried : {f g above : ℕ → Bool} → ((i : ℕ) → f i ≡ true → g i ≡ true) → Crossing f above → Crossing g above
carried h c = record { state = c.state; left = h c.state c.left; rest = c.rest }

empty-append : (y w : List ℕ) → empty w ≡ false → empty (y ++ w) ≡ false
empty-append [] w e = e
empty-append (l ∷ y) w e = refl

module _ (take : ℕ → ℕ → Bool) (stay : ℕ → Bool) where
  -- `over` computes the relation
  pub of-over : (k : ℕ) (y : List ℕ) (i : ℕ) → over take stay k y i ≡ true → Over take stay k y i
  unfolding over
  of-over k [] i e = rw (eqb-true k i e) cut
  of-over zero (l ∷ y) i e = both (stay 0) (over take stay 0 y i) e (λ p q. passes p (of-over zero y i q))
  of-over (suc k) (l ∷ y) i e =
      either (take (suc k) l && over take stay k y i) (stay (suc k) && over take stay (suc k) y i) e
      (λ here. both (take (suc k) l) (over take stay k y i) here (λ p q. lands p (of-over k y i q)))
      (λ above. both (stay (suc k)) (over take stay (suc k) y i) above (λ p q. passes p (of-over (suc k) y i q)))

  pub to_over : {k : ℕ} {y : List ℕ} {i : ℕ} → Over take stay k y i → over take stay k y i ≡ true
  unfolding over
  to_over (cut {k = k}) = eq-eqb k k refl
  to_over (lands p o) = rw (p, to_over o)
  to_over (passes {k = zero} p o) = rw (p, to_over o)
  to_over (passes {k = suc k} p o) = rw (p, to_over o, or-true)

  -- a run falls from state to state; past a label it falls below a state that may not stay
  pub over_falls : {k : ℕ} {y : List ℕ} {i : ℕ} → Over take stay k y i → i ≤ k
  over_falls cut = omega arith
  over_falls (lands p o) = omega (arith, over_falls o)
  over_falls (passes p o) = over_falls o

  pub over_below : {k l : ℕ} {y : List ℕ} {i : ℕ} → stay k ≡ false → Over take stay k (l ∷ y) i → i < k
  over_below e (lands p o) = omega (arith, over_falls o)
  over_below e (passes p o) = absurd (false≢true (cc))

  -- a run over both ways, from its parts
  joined : {k : ℕ} {y : List ℕ} {i : ℕ} {w : List ℕ} → Over take stay k y i → Run take stay i w → Run take stay k (y ++ w)
  joined cut r = r
  joined (lands p o) r = step p (joined o r)
  joined (passes p o) r = pass p (joined o r)

  pub runs_join : (k : ℕ) (y w : List ℕ) → Crossing (over take stay k y) (λ i. runs take stay i w) → runs take stay k (y ++ w) ≡ true
  runs_join k y w c =
      to_runs take stay
      (joined (of-over k y c.state c.left) (of-runs take stay c.state w c.rest))

  -- its parts, where the way above is not empty
  pub runs_split : (k : ℕ) (y w : List ℕ) → empty w ≡ false → runs take stay k (y ++ w) ≡ true → Crossing (over take stay k y) (λ i. runs take stay i w)
  unfolding over runs
  runs_split k [] w some e = record { state = k; left = eq-eqb k k refl; rest = e }
  runs_split zero (m ∷ y) w some e =
      either (take 0 m && empty (y ++ w)) (stay 0 && runs take stay 0 (y ++ w)) e
      (λ here. both (take 0 m) (empty (y ++ w)) here (λ p q. absurd (false≢true (cc (empty-append y w some)))))
      (λ above. both (stay 0) (runs take stay 0 (y ++ w)) above (λ p q. carried (λ i h. rw (p, h)) (runs_split 0 y w some q)))
  runs_split (suc k) (m ∷ y) w some e =
      either (take (suc k) m && runs take stay k (y ++ w)) (stay (suc k) && runs take stay (suc k) (y ++ w)) e
      (λ here. both (take (suc k) m) (runs take stay k (y ++ w)) here (λ p q. carried (λ i h. rw (p, h)) (runs_split k y w some q)))
      (λ above. both (stay (suc k)) (runs take stay (suc k) (y ++ w)) above (λ p q. carried (λ i h. rw (p, h, or-true)) (runs_split (suc k) y w some q)))

-- a way on which a pattern runs is not empty
pub run_some : (p : List ℕ) (below : Bool) (i : ℕ) (w : List ℕ) → run p below i w ≡ true → empty w ≡ false
unfolding run runs
run_some p below i [] e = absurd (false≢true e)
run_some p below i (l ∷ w) e = refl

module _ (r : List ℕ) where
  -- r selects at the end of a way that leads through y into w exactly if it comes to a state over w, from which it goes on over y
  pub goes-on_join : (y w : List ℕ) → Crossing (goes_further r y) (λ i. run r false i w) → sel r (y ++ w) ≡ true
  unfolding goes_further run
  goes-on_join y w c = runs_join (takes r) (stays r false) (last r) y w c

  pub goes-on_split : (y w : List ℕ) → empty w ≡ false → sel r (y ++ w) ≡ true → Crossing (goes_further r y) (λ i. run r false i w)
  unfolding goes_further run
  goes-on_split y w some e = runs_split (takes r) (stays r false) (last r) y w some e

  -- that state is before r's last, where y is not empty
  pub goes-on-before : (y : List ℕ) (i : ℕ) → empty y ≡ false → goes_further r y i ≡ true → i < last r
  unfolding goes_further
  goes-on-before [] i some e = absurd (false≢true (cc))
  goes-on-before (l ∷ y) i some e =
      over_below (takes r) (stays r false) (stays-last r false) (of-over (takes r) (stays r false) (last r) (l ∷ y) i e)
