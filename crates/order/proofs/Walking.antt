-- An order walked from its front. Before each of its frames the document is a stage of the batch's own run, the frontier: the updates of all frames
-- before the frontier have run, and no other.
use Prim.Native.Nat.{ℕ, suc, ◌<◌, ◌≤◌}
use native.Mathlib.Omega.{arith}
use mathlib.Core.Path.{◌≡◌, refl, sym, ap, subst}
use mathlib.Core.Bool.{Bool, true, false}
use mathlib.Core.List.{List, [], ◌∷◌}
use mathlib.Core.Logic.{◌≢◌}
use lib.ListN.{length}
use Rattle.order.specs.Model.{Fits, act, ran, last_doc, met}
use Rattle.order.specs.Frames.{Frame, read, update, At, here, there}
use Rattle.order.specs.Order.{Stands, Before}
use Rattle.order.proofs.Places.{at_below, by_kind, apart}
use Rattle.order.proofs.Stages.{Keeps, met_cases, stage, stage_keeps, stage_climb, ran_at}

-- what is asked of updates and of what is shown, of the relation that slots use and of the frames that a batch may have
pub record Lawful {Doc Read Update : Type 0} (apply : Update → Doc → Doc) (alike : Read → Doc → Doc → Type 0) (conflicts : Read → Update → Bool)
    (Fit : Frame Read Update → Type 0) (Sound : Doc → Type 0) : Type 0 where
  -- an update leaves a sound document sound
  pub keeps : {u : Update} → Fit (update u) → {d : Doc} → Sound d → Sound (apply u d)
  -- and, without a conflict, shows the same to a read
  pub unchanged : {r : Read} {u : Update} → Fit (read r) → Fit (update u) → conflicts r u ≡ false → {d : Doc} → Sound d → alike r (apply u d) d
  -- to show the same is to be of one kind
  pub itself : {r : Read} {d : Doc} → alike r d d
  pub back : {r : Read} {d e : Doc} → alike r d e → alike r e d
  pub on : {r : Read} {c d e : Doc} → alike r c d → alike r d e → alike r c e

-- what holds of an order, and of what is left of it after each frame
pub record Arranged {Read Update : Type 0} (conflicts : Read → Update → Bool) (b : List (Frame Read Update)) (o : List ℕ) : Type 0 where
  pub once : {p q k : ℕ} → At o p k → At o q k → p ≡ q
  pub only : {p k : ℕ} → At o p k → k < length b
  pub in_sequence : {i j : ℕ} {u w : Update} → At b i (update u) → At b j (update w) → i < j → Before o i j
  pub before_later : {i j : ℕ} {r : Read} {u : Update} → At b i (read r) → At b j (update u) → i < j → Before o i j
  pub after_conflicts : {i j : ℕ} {r : Read} {u : Update} → At b i (read r) → At b j (update u) → j < i → conflicts r u ≡ true → Before o j i

before-tail : {k i j : ℕ} {o : List ℕ} → Before (k ∷ o) i j → Before o i j
before-tail s = record { before = λ p q. omega (arith, s.before (there p) (there q)) }

-- nothing stands before the first
not_before_first : {k i : ℕ} {o : List ℕ} → Stands (k ∷ o) i → Before (k ∷ o) i k → ⊥
not_before_first s before = omega (arith, before.before s.there here)

-- what is not the first stands behind it
behind_first_lem : {k i p : ℕ} {o : List ℕ} → (k ≡ i → ⊥) → At (k ∷ o) p i → Stands o i
behind_first_lem other here = absurd (other refl)
behind_first_lem {p = suc p} other (there q) = record { place = p; there = q }

tail : {Read Update : Type 0} {conflicts : Read → Update → Bool} {b : List (Frame Read Update)} {k : ℕ} {o : List ℕ}
    → Arranged conflicts b (k ∷ o) → Arranged conflicts b o
tail a = record {
  once = λ p q. omega (arith, a.once (there p) (there q));
  only = λ p. a.only (there p);
  in_sequence = λ p q h. before-tail (a.in_sequence p q h);
  before_later = λ p q h. before-tail (a.before_later p q h);
  after_conflicts = λ p q h e. before-tail (a.after_conflicts p q h e);
}

-- what is left of an order: frames from the frontier f on, and among them every update from there on
pub record Rest {Read Update : Type 0} (b : List (Frame Read Update)) (o : List ℕ) (f : ℕ) : Type 0 where
  pub inside : f ≤ length b
  pub ahead : {p i : ℕ} → At o p i → f ≤ i
  pub left : {j : ℕ} {u : Update} → At b j (update u) → f ≤ j → Stands o j

module _ {Doc Read Update : Type 0} (apply : Update → Doc → Doc) (alike : Read → Doc → Doc → Type 0) (b : List (Frame Read Update)) (d : Doc) where
  -- frame k meets document e: a read is shown what it is shown at its own stage, an update meets its own stage
  pub record Meets (k : ℕ) (e : Doc) : Type 0 where
    pub reads : {r : Read} → At b k (read r) → alike r e (stage apply b d k)
    pub updates : {u : Update} → At b k (update u) → e ≡ stage apply b d k

  -- what the rest of an order gives from document e on
  pub record Gives (o : List ℕ) (e : Doc) : Type 0 where
    pub meets : {i : ℕ} → Stands o i → Meets i (met apply b o e i)
    pub document : last_doc apply b o e ≡ stage apply b d (length b)

  -- after frame k, met at stage f, the document is a stage again
  record Next (k f : ℕ) (o : List ℕ) : Type 0 where
    frontier : ℕ
    rest : Rest b o frontier
    moved : ran apply b k (stage apply b d f) ≡ stage apply b d frontier

-- the frames of a fit batch keep documents sound
pub sound_kept : {Doc Read Update : Type 0} {apply : Update → Doc → Doc} {alike : Read → Doc → Doc → Type 0} {conflicts : Read → Update → Bool} {Fit : Frame Read Update → Type 0}
    {Sound : Doc → Type 0} {b : List (Frame Read Update)} → Lawful apply alike conflicts Fit Sound → Fits Fit b → Keeps apply Sound b
sound_kept {Doc} {Read} {Update} {apply} {Fit = Fit} {Sound = Sound} laws fits = record { kept = λ {f} p h. go f (fits.fit p) h }
  where
    go : (f : Frame Read Update) → Fit f → {e : Doc} → Sound e → Sound (act apply f e)
    go (read r) fit h = h
    go (update u) fit h = laws.keeps fit h

module _ {Doc Read Update : Type 0} {apply : Update → Doc → Doc} {alike : Read → Doc → Doc → Type 0} {conflicts : Read → Update → Bool}
    {Fit : Frame Read Update → Type 0} {Sound : Doc → Type 0} (laws : Lawful apply alike conflicts Fit Sound)
    {b : List (Frame Read Update)} (fits : Fits Fit b) {d : Doc} (sound : Sound d) where
  -- the first frame left meets its stage: an update that stood between and mattered would come before it
  first_meets : {k f : ℕ} {o : List ℕ} → Arranged conflicts b (k ∷ o) → Rest b (k ∷ o) f → Meets apply alike b d k (stage apply b d f)
  first_meets {k} {f} arranged rest = record {
    reads = λ {r} p. climb (alike r (stage apply b d f)) (λ j u q a c. same p j q a c (conflicts r u) refl) laws.itself;
    updates = λ p. climb (λ e. stage apply b d f ≡ e) (λ j u q a c e. absurd (not_before_first (rest.left q a) (arranged.in_sequence q p c))) refl;
  }
    where
      climb : (P : Doc → Type 0)
          → ((j : ℕ) (u : Update) → At b j (update u) → f ≤ j → j < k → P (stage apply b d j) → P (apply u (stage apply b d j)))
          → P (stage apply b d f) → P (stage apply b d k)
      climb P = stage_climb apply P b d (rest.ahead here) (omega (arith, arranged.only here))

      same : {r : Read} {u : Update} → At b k (read r) → (j : ℕ) → At b j (update u) → f ≤ j → j < k → (t : Bool) → conflicts r u ≡ t
          → alike r (stage apply b d f) (stage apply b d j) → alike r (stage apply b d f) (apply u (stage apply b d j))
      same p j q a c true e h = absurd (not_before_first (rest.left q a) (arranged.after_conflicts p q c e))
      same p j q a c false e h = laws.on h (laws.back (laws.unchanged (fits.fit p) (fits.fit q) e (stage_keeps apply (sound_kept laws fits) sound j)))

  -- a read leaves the frontier where it is
  next_read : {k f : ℕ} {o : List ℕ} {r : Read} → Rest b (k ∷ o) f → At b k (read r) → Next apply alike b d k f o
  next_read {k} {f} rest at = record {
    frontier = f;
    rest = record {
      inside = rest.inside;
      ahead = λ p. rest.ahead (there p);
      left = λ p h. behind_first_lem (apart at p) (rest.left p h).there;
    };
    moved = ran_at apply at (stage apply b d f);
  }

  -- an update takes it behind itself: what stood before the update in the batch has run
  next_update : {k f : ℕ} {o : List ℕ} {u : Update} → Arranged conflicts b (k ∷ o) → Rest b (k ∷ o) f → At b k (update u) → Next apply alike b d k f o
  unfolding stage
  next_update {k} {o} arranged rest at = record {
    frontier = suc k;
    rest = record {
      inside = at_below at;
      ahead = later;
      left = λ p h. behind_first_lem (λ e. omega arith) (rest.left p (omega (arith, rest.ahead here))).there;
    };
    moved = ap (ran apply b k) ((first_meets arranged rest).updates at);
  }
    where
      again : {p : ℕ} → At o p k → ⊥
      again q = omega (arith, arranged.once here (there q))

      later : {p i : ℕ} → At o p i → k < i
      later {p} {i} q =
          let other : k ≢ i = λ e. again (subst (λ (n : ℕ). At o p n) (sym e) q) in
          let early : ¬ (i < k) = λ h. not_before_first (record { place = suc p; there = there q })
          (by_kind b i (arranged.only (there q)) (λ r s. arranged.before_later s at h) (λ w s. arranged.in_sequence s at h)) in
          omega arith

  -- from the frontier on, every frame meets its stage
  pub walk : (o : List ℕ) (f : ℕ) → Arranged conflicts b o → Rest b o f → Gives apply alike b d o (stage apply b d f)
  unfolding met last_doc
  walk [] f arranged rest = record {
    meets = λ s. absurd (none s.there);
    document = stage_climb apply (λ e. stage apply b d f ≡ e) b d rest.inside (omega arith) (λ j u q a c e. absurd (none (rest.left q a).there)) refl;
  }
    where
      none : {p k : ℕ} → At [] p k → ⊥
      none q = omega (arith, at_below q)
  walk (k ∷ o) f arranged rest =
      let n : Next apply alike b d k f o = by_kind b k (arranged.only here) (λ r. next_read rest) (λ u. next_update arranged rest) in
      let gives : Gives apply alike b d o (stage apply b d n.frontier) = walk o n.frontier (tail arranged) n.rest in
      record {
        meets = λ {i} s.
            met_cases apply (Meets apply alike b d i) b k o (stage apply b d f) i
            (λ e. subst (λ (j : ℕ). Meets apply alike b d j (stage apply b d f)) e (first_meets arranged rest))
            (λ other. rw n.moved (gives.meets (behind_first_lem other s.there)));
        document = rw n.moved gives.document;
      }
