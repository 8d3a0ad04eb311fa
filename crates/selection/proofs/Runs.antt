-- A run over a way as a relation, and that `runs` computes it; hits is the run whose last state may stay.
use Prim.Native.Nat.{ℕ, zero, suc, pred, ◌<◌, ◌≤◌}
use mathlib.Core.Path.{◌≡◌, refl, sym, ◌∙◌, ap}
use mathlib.Core.Bool.{Bool, true, false, ◌&&◌, ◌||◌, cond, false≢true, or-true, or-false}
use mathlib.Core.List.{List, [], ◌∷◌}
use mathlib.Core.Logic.{◌⊎◌, inl, inr}
use native.Mathlib.Nat.{suc-lt_of_lt-pred}
use native.Mathlib.Omega.{arith}
use lib.Dec.{eqb, ltb}
use borrow.Author.Tests.{lt-ltb, le-ltb, eq-eqb, eqb-true}
use Rattle.tables.specs.Words.{steps, axis, label}
use Rattle.selection.specs.Ways.{empty, runs, run, takes, stays, last, sel}
use Rattle.selection.specs.Operations.{hits}

pub data Run (take : ℕ → ℕ → Bool) (stay : ℕ → Bool) : ℕ → List ℕ → Type 0 where
  first : {l : ℕ} → take 0 l ≡ true → Run take stay 0 (l ∷ [])
  step : {i l : ℕ} {w : List ℕ} → take (suc i) l ≡ true → Run take stay i w → Run take stay (suc i) (l ∷ w)
  pass : {i l : ℕ} {w : List ℕ} → stay i ≡ true → Run take stay i w → Run take stay i (l ∷ w)

-- what a true test tells of its parts
pub either : {C : Type 0} (a b : Bool) → (a || b) ≡ true → (a ≡ true → C) → (b ≡ true → C) → C
either true b e f g = f refl
either false b e f g = g e

pub both : {C : Type 0} (a b : Bool) → (a && b) ≡ true → (a ≡ true → b ≡ true → C) → C
both true b e f = f refl e
both false b e f = absurd (false≢true e)

module _ (take : ℕ → ℕ → Bool) (stay : ℕ → Bool) where
  first_of_lem : (l : ℕ) (w : List ℕ) → take 0 l ≡ true → empty w ≡ true → Run take stay 0 (l ∷ w)
  first_of_lem l [] h e = first h
  first_of_lem l (m ∷ w) h e = absurd (false≢true e)

  -- `runs` is the run
  pub of-runs : (i : ℕ) (w : List ℕ) → runs take stay i w ≡ true → Run take stay i w
  unfolding runs
  of-runs i [] e = absurd (false≢true e)
  of-runs zero (l ∷ w) e =
      either (take 0 l && empty w) (stay 0 && runs take stay 0 w) e
      (λ here. both (take 0 l) (empty w) here (λ h k. first_of_lem l w h k))
      (λ above. both (stay 0) (runs take stay 0 w) above (λ h k. pass h (of-runs zero w k)))
  of-runs (suc i) (l ∷ w) e =
      either (take (suc i) l && runs take stay i w) (stay (suc i) && runs take stay (suc i) w) e
      (λ here. both (take (suc i) l) (runs take stay i w) here (λ h k. step h (of-runs i w k)))
      (λ above. both (stay (suc i)) (runs take stay (suc i) w) above (λ h k. pass h (of-runs (suc i) w k)))

  pub to_runs : {i : ℕ} {w : List ℕ} → Run take stay i w → runs take stay i w ≡ true
  unfolding runs
  to_runs (first h) = rw h
  to_runs (step h r) = rw (h, to_runs r)
  to_runs (pass {i = zero} h r) = rw (h, to_runs r, or-true)
  to_runs (pass {i = suc i} h r) = rw (h, to_runs r, or-true)

-- where steps take more labels and more states may stay, a run stays one; it asks only of its own state and of those before it
pub run_more : {take also : ℕ → ℕ → Bool} {few many : ℕ → Bool} {i : ℕ} {w : List ℕ} → ((j l : ℕ) → j ≤ i → take j l ≡ true → also j l ≡ true) → ((j : ℕ) → j ≤ i → few j ≡ true → many j ≡ true)
    → Run take few i w → Run also many i w
run_more labels stays (first h) = first (labels 0 _ (omega arith) h)
run_more labels stays (step {i = i} h r) = step (labels (suc i) _ (omega arith) h) (run_more (λ j l b. labels j l (omega arith)) (λ j b. stays j (omega arith)) r)
run_more labels stays (pass {i = i} h r) = pass (stays i (omega arith) h) (run_more labels stays r)

module _ (take : ℕ → ℕ → Bool) (few many : ℕ → Bool) where
  -- a run asks only of its own state and of those before it whether they may stay
  pub runs_same : (i : ℕ) → ((j : ℕ) → j ≤ i → few j ≡ many j) → (w : List ℕ) → runs take few i w ≡ runs take many i w
  unfolding runs
  runs_same i same [] = refl
  runs_same zero same (l ∷ w) = rw (same 0 (omega arith), runs_same zero same w)
  runs_same (suc i) same (l ∷ w) =
      rw (same (suc i) (omega arith), runs_same i (λ j h. same j (omega arith)) w, runs_same (suc i) same w)

  -- where only the last state may stay besides: a run that ends here, or one above
  pub runs_last : (i : ℕ) → few i ≡ false → many i ≡ true → ((j : ℕ) → j < i → few j ≡ many j) → (l : ℕ) (w : List ℕ) → (runs take few i (l ∷ w) || runs take many i w) ≡ runs take many i (l ∷ w)
  unfolding runs
  runs_last zero no-stay may-stay same l w = rw (no-stay, may-stay, or-false)
  runs_last (suc i) no-stay may-stay same l w =
      rw (no-stay, may-stay, or-false, runs_same i (λ j h. same j (omega arith)) w)

-- a step takes a label: it is a wildcard or its own
pub of-takes : (p : List ℕ) (i l : ℕ) → takes p i l ≡ true → (label p i ≡ 0) ⊎ (label p i ≡ l)
of-takes p i l e =
    either (eqb (label p i) 0) (eqb (label p i) l) e
    (λ h. inl (eqb-true (label p i) 0 h))
    (λ h. inr (eqb-true (label p i) l h))

pub to_takes : (p : List ℕ) (i l : ℕ) → (label p i ≡ 0) ⊎ (label p i ≡ l) → takes p i l ≡ true
to_takes p i l (inl e) = rw (eq-eqb (label p i) 0 e)
to_takes p i l (inr e) = rw (eq-eqb (label p i) l e, or-true)

-- before the last step, what may stay is the next axis; at the last, what is said
pub stays-next : (p : List ℕ) (below : Bool) (i : ℕ) → suc i < steps p → stays p below i ≡ eqb (axis p (suc i)) 2
stays-next p below i h = rw (lt-ltb (suc i) (steps p) h)

le_suc-pred : (n : ℕ) → n ≤ suc (pred n)
le_suc-pred n = omega arith

pub stays-last : (p : List ℕ) (below : Bool) → stays p below (last p) ≡ below
stays-last p below = rw (le-ltb (suc (last p)) (steps p) (le_suc-pred (steps p)))

pub stays_same : (p : List ℕ) (i : ℕ) → suc i < steps p → stays p false i ≡ stays p true i
stays_same p i h = stays-next p false i h ∙ sym (stays-next p true i h)

-- a state that may stay has a descendant axis next
pub stays-axis : (p : List ℕ) (i : ℕ) → stays p false i ≡ true → axis p (suc i) ≡ 2
stays-axis p i e = pick (ltb (suc i) (steps p)) e
  where
    pick : (b : Bool) → cond b (eqb (axis p (suc i)) 2) false ≡ true → axis p (suc i) ≡ 2
    pick true h = eqb-true (axis p (suc i)) 2 h
    pick false h = absurd (false≢true h)

stays_more : (p : List ℕ) (i : ℕ) → stays p false i ≡ true → stays p true i ≡ true
stays_more p i = pick (ltb (suc i) (steps p)) (eqb (axis p (suc i)) 2)
  where
    pick : (b x : Bool) → cond b x false ≡ true → cond b x true ≡ true
    pick true x e = e
    pick false x e = refl

-- a run that ends at its node is a run that ends there or above
pub run_below : (p : List ℕ) (i : ℕ) (w : List ℕ) → run p false i w ≡ true → run p true i w ≡ true
unfolding run
run_below p i w e =
    to_runs (takes p) (stays p true)
    (run_more (λ j l h t. t) (λ j h. stays_more p j) (of-runs (takes p) (stays p false) i w e))

-- before the last step the two are one
pub run-same : (p : List ℕ) (i : ℕ) → suc i < steps p → (w : List ℕ) → run p false i w ≡ run p true i w
unfolding run
run-same p i h w = runs_same (takes p) (stays p false) (stays p true) i (λ j k. stays_same p j (omega arith)) w

-- selected at the end of a way or above it: the run whose last state may stay
pub hits-run : (p : List ℕ) (w : List ℕ) → hits p w ≡ run p true (last p) w
unfolding hits run runs
hits-run p [] = refl
hits-run p (l ∷ w) =
    ap (λ b. sel p (l ∷ w) || b) (hits-run p w) ∙
    runs_last (takes p) (stays p false) (stays p true) (last p) (stays-last p false) (stays-last p true) (λ j h. stays_same p j (suc-lt_of_lt-pred h)) l w
