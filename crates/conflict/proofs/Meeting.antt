-- The meeting of a read and an update is the shortest way on which both run, [] where there is none: the laws over labels and states.
-- `fewest` counts its labels, of which there are at most i + j + 1, each one that a node may have.
use Prim.Native.Nat.{ℕ, zero, suc, ◌+◌, ◌<◌, ◌≤◌}
use native.Mathlib.Omega.{arith}
use mathlib.Core.Path.{◌≡◌, refl}
use mathlib.Core.Bool.{Bool, true, false, cond}
use mathlib.Core.List.{List, [], ◌∷◌}
use lib.ListN.{length}
use Rattle.tables.specs.Limits.{word_limit}
use Rattle.selection.specs.Ways.{runs}
use Rattle.selection.proofs.Runs.{Run, first, step, pass, of-runs, to_runs}
use Rattle.conflict.specs.Meeting.{agree, shared, longer, meeting, fewest}
use Rattle.conflict.proofs.Steps.{asks, Named, Within, landing-named, landing-asked, shared-named, shared_read, shared_update, agree_of, least_first, least_second, least_keeps, shorter_keeps, cond_keeps, onward-within, onward_most, longer_keeps, length-shorter, length-longer}

-- every label of a way is one that a node may have
pub data Labels : List ℕ → Type 0 where
  none : Labels []
  more : {l : ℕ} {w : List ℕ} → Named l → Labels w → Labels (l ∷ w)

-- a way that the read and the update both take
pub record Common (read update : List ℕ → Bool) (w : List ℕ) : Type 0 where
  pub reads : read w ≡ true
  pub updates : update w ≡ true

-- a way on which both run, or none
data Found (a b : ℕ → ℕ) (s u : ℕ → Bool) (i j : ℕ) : List ℕ → Type 0 where
  none : Found a b s u i j []
  some : {w : List ℕ} → Run (asks a) s i w → Run (asks b) u j w → Found a b s u i j w

module _ (a b : ℕ → ℕ) (s u : ℕ → Bool) where
  -- `fewest` is the number of labels of the meeting
  pub length-meeting : (i j : ℕ) → length (meeting a b s u i j) ≡ fewest a b s u i j
  unfolding meeting fewest
  length-meeting zero zero = go (agree (a 0) (b 0))
    where
      go : (t : Bool) → length (cond t (shared (a 0) (b 0) ∷ []) []) ≡ cond t 1 0
      go true = refl
      go false = refl
  length-meeting zero (suc j) = rw (length-longer, length-meeting zero j)
  length-meeting (suc i) zero = rw (length-longer, length-meeting i zero)
  length-meeting (suc i) (suc j) =
      simp (length-shorter, length-longer, length-meeting i j, length-meeting i (suc j), length-meeting (suc i) j)

  -- it is at most i + j + 1
  pub fewest_most : (i j : ℕ) → fewest a b s u i j ≤ i + j + 1
  unfolding fewest
  fewest_most zero zero = cond_keeps (λ n. n ≤ 1) (agree (a 0) (b 0)) (λ e. omega arith) (omega arith)
  fewest_most zero (suc j) = omega (arith, onward_most (s 0) (fewest a b s u zero j), fewest_most zero j)
  fewest_most (suc i) zero = omega (arith, onward_most (u 0) (fewest a b s u i zero), fewest_most i zero)
  fewest_most (suc i) (suc j) =
      least_keeps (λ n. n ≤ suc i + suc j + 1) _ _
      (omega (arith, onward_most (agree (a (suc i)) (b (suc j))) (fewest a b s u i j), fewest_most i j))
      (least_keeps (λ n. n ≤ suc i + suc j + 1) _ _
      (omega (arith, onward_most (u (suc j)) (fewest a b s u i (suc j)), fewest_most i (suc j)))
      (omega (arith, onward_most (s (suc i)) (fewest a b s u (suc i) j), fewest_most (suc i) j)))

  module _ (names : (i : ℕ) → a i < word_limit) (others : (j : ℕ) → b j < word_limit) where
    -- the labels of the meeting are labels that nodes may have
    pub meeting_labels : (i j : ℕ) → Labels (meeting a b s u i j)
    unfolding meeting
    meeting_labels zero zero =
        cond_keeps Labels (agree (a 0) (b 0)) (λ e. more (shared-named (a 0) (b 0) (names 0) (others 0)) none) none
    meeting_labels zero (suc j) =
        longer_keeps Labels (s 0) _ _ none (λ e. more (landing-named (b (suc j)) (others (suc j))) (meeting_labels zero j))
    meeting_labels (suc i) zero =
        longer_keeps Labels (u 0) _ _ none (λ e. more (landing-named (a (suc i)) (names (suc i))) (meeting_labels i zero))
    meeting_labels (suc i) (suc j) =
        shorter_keeps Labels _ _
        (longer_keeps Labels _ _ _ none (λ e. more (shared-named (a (suc i)) (b (suc j)) (names (suc i)) (others (suc j))) (meeting_labels i j)))
        (shorter_keeps Labels _ _
        (longer_keeps Labels _ _ _ none (λ e. more (landing-named (a (suc i)) (names (suc i))) (meeting_labels i (suc j))))
        (longer_keeps Labels _ _ _ none (λ e. more (landing-named (b (suc j)) (others (suc j))) (meeting_labels (suc i) j))))

  -- a move that may be made leads from a way on which both run to another
  move : {i j k m l : ℕ} (may : Bool) (w : List ℕ)
      → (may ≡ true → Run (asks a) s i w → Run (asks a) s k (l ∷ w))
      → (may ≡ true → Run (asks b) u j w → Run (asks b) u m (l ∷ w))
      → Found a b s u i j w → Found a b s u k m (longer may l w)
  unfolding longer
  move may [] f g none = none
  move {k} {m} {l} may w f g (some r t) = longer_keeps (Found a b s u k m) may l w none (λ e. some (f e r) (g e t))

  found : (i j : ℕ) → Found a b s u i j (meeting a b s u i j)
  unfolding meeting
  found zero zero =
      cond_keeps (Found a b s u 0 0) (agree (a 0) (b 0))
      (λ e. some (first (shared_read (a 0) (b 0))) (first (shared_update (a 0) (b 0) e))) none
  found zero (suc j) = move (s 0) (meeting a b s u zero j) pass (λ e. step (landing-asked (b (suc j)))) (found zero j)
  found (suc i) zero = move (u 0) (meeting a b s u i zero) (λ e. step (landing-asked (a (suc i)))) pass (found i zero)
  found (suc i) (suc j) =
      shorter_keeps (Found a b s u (suc i) (suc j)) _ _
      (move _ (meeting a b s u i j) (λ e. step (shared_read (a (suc i)) (b (suc j)))) (λ e. step (shared_update (a (suc i)) (b (suc j)) e)) (found i j))
      (shorter_keeps (Found a b s u (suc i) (suc j)) _ _
      (move _ (meeting a b s u i (suc j)) (λ e. step (landing-asked (a (suc i)))) pass (found i (suc j)))
      (move _ (meeting a b s u (suc i) j) pass (λ e. step (landing-asked (b (suc j)))) (found (suc i) j)))

  -- where there is a meeting, both run on it
  pub meeting_common : (i j : ℕ) → 0 < fewest a b s u i j → Common (runs (asks a) s i) (runs (asks b) u j) (meeting a b s u i j)
  meeting_common i j h = go (meeting a b s u i j) (found i j) (omega (arith, length-meeting i j))
    where
      go : (w : List ℕ) → Found a b s u i j w → 0 < length w → Common (runs (asks a) s i) (runs (asks b) u j) w
      go [] none e = absurd (omega arith)
      go w (some r t) e = record { reads = to_runs (asks a) s r; updates = to_runs (asks b) u t }

  -- a way one label longer, where one lands and the other stays
  read_within : (i j : ℕ) {k : ℕ} → u j ≡ true → Within (fewest a b s u i j) k → Within (fewest a b s u (suc i) j) (suc k)
  unfolding fewest
  read_within i zero e h = onward-within _ e h
  read_within i (suc j) e h = least_second _ _ (least_first _ _ (onward-within _ e h))

  update_within : (i j : ℕ) {k : ℕ} → s i ≡ true → Within (fewest a b s u i j) k → Within (fewest a b s u i (suc j)) (suc k)
  unfolding fewest
  update_within zero j e h = onward-within _ e h
  update_within (suc i) j e h = least_second _ _ (least_second _ _ (onward-within _ e h))

  within : {i j : ℕ} {w : List ℕ} → Run (asks a) s i w → Run (asks b) u j w → Within (fewest a b s u i j) (length w)
  unfolding fewest
  within (first {l = l} p) (first q) = rw (agree_of (a 0) (b 0) l p q) (omega arith)
  within (step {i = i} {l = l} p r) (step {i = j} q t) =
      least_first _ _ (onward-within _ (agree_of (a (suc i)) (b (suc j)) l p q) (within r t))
  within (step {i = i} p r) (pass {i = j} e t) = read_within i j e (within r t)
  within (pass {i = i} e r) (step {i = j} q t) = update_within i j e (within r t)
  within (pass e r) (pass d t) = omega (arith, within r t)
  within (first {l = l} p) (step {i = j} q t) = elim t [ ]
  within {j = j} (first {l = l} p) (pass e t) = elim t [ ]
  within (step {i = i} {l = l} p r) (first q) = elim r [ ]
  within (pass {i = i} {l = l} e r) (first q) = elim r [ ]

  -- where both run on some way, there is a meeting, and it is no longer
  pub fewest-within : (i j : ℕ) (w : List ℕ) → Common (runs (asks a) s i) (runs (asks b) u j) w → Within (fewest a b s u i j) (length w)
  fewest-within i j w c = within (of-runs (asks a) s i w c.reads) (of-runs (asks b) u j w c.updates)

  -- where there is no meeting, both run on no way
  pub fewest_none : (i j : ℕ) (w : List ℕ) → fewest a b s u i j ≡ 0 → Common (runs (asks a) s i) (runs (asks b) u j) w → ⊥
  fewest_none i j w e c = omega (arith, fewest-within i j w c)

-- a meeting asks only of the read's own state and of those before it whether they may stay
pub meeting-same : (a b : ℕ → ℕ) (s t u : ℕ → Bool) (i : ℕ) → ((k : ℕ) → k ≤ i → s k ≡ t k) → (j : ℕ) → meeting a b s u i j ≡ meeting a b t u i j
unfolding meeting
meeting-same a b s t u zero same zero = refl
meeting-same a b s t u zero same (suc j) = rw (same 0 (omega arith), meeting-same a b s t u zero same j)
meeting-same a b s t u (suc i) same zero = rw (meeting-same a b s t u i (λ k h. same k (omega arith)) zero)
meeting-same a b s t u (suc i) same (suc j) =
    rw (
      same (suc i) (omega arith),
      meeting-same a b s t u i (λ k h. same k (omega arith)) j,
      meeting-same a b s t u i (λ k h. same k (omega arith)) (suc j),
      meeting-same a b s t u (suc i) same j,
    )
