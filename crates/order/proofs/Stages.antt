-- The stages of a document: what the frames before frame k make of it, one after another. Where none of the frames between matters, two stages
-- are the same, or look the same to a read.
use Prim.Native.Nat.{ℕ, zero, suc, ◌<◌, ◌≤◌}
use native.Mathlib.Omega.{arith}
use native.Mathlib.Decide.{le_ind}
use borrow.Author.Tests.{eqb-true, eqb-false}
use mathlib.Core.Path.{◌≡◌, refl}
use mathlib.Core.Bool.{Bool, true, false, cond}
use mathlib.Core.List.{List, [], ◌∷◌}
use lib.Dec.{eqb}
use lib.ListN.{length}
use Rattle.order.specs.Model.{act, ran, met}
use Rattle.order.specs.Frames.{Frame, update, At, here, there}
use Rattle.order.proofs.Places.{by_kind}

module _ {Doc Read Update : Type 0} (apply : Update → Doc → Doc) where
  pub ran_at : {b : List (Frame Read Update)} {k : ℕ} {f : Frame Read Update} → At b k f → (d : Doc) → ran apply b k d ≡ act apply f d
  unfolding ran
  ran_at here d = refl
  ran_at (there p) d = ran_at p d

  -- what holds of a document holds of what each frame of the batch makes of it
  pub record Keeps (P : Doc → Type 0) (b : List (Frame Read Update)) : Type 0 where
    pub kept : {k : ℕ} {f : Frame Read Update} → At b k f → {d : Doc} → P d → P (act apply f d)

  ran_keeps : {P : Doc → Type 0} {b : List (Frame Read Update)} → Keeps P b → (k : ℕ) {d : Doc} → P d → P (ran apply b k d)
  unfolding ran
  ran_keeps {b = []} keeps k h = h
  ran_keeps {b = f ∷ b} keeps zero h = keeps.kept here h
  ran_keeps {P} {b = f ∷ b} keeps (suc k) h = ran_keeps {P = P} {b = b} (record { kept = λ p. keeps.kept (there p) }) k h

  -- by the first frame of an order: what frame i meets
  pub met_cases : (P : Doc → Type 0) (b : List (Frame Read Update)) (k : ℕ) (o : List ℕ) (d : Doc) (i : ℕ)
      → (k ≡ i → P d) → ((k ≡ i → ⊥) → P (met apply b o (ran apply b k d) i)) → P (met apply b (k ∷ o) d i)
  unfolding met
  met_cases P b k o d i now later = go (eqb k i) (λ e. now (eqb-true k i e)) (λ e. later (eqb-false k i e))
    where
      go : (t : Bool) → (t ≡ true → P d) → (t ≡ false → P (met apply b o (ran apply b k d) i)) → P (cond t d (met apply b o (ran apply b k d) i))
      go true f g = f refl
      go false f g = g refl

  -- what the frames keep holds of every document that a frame meets, in any order
  pub met_keeps : {P : Doc → Type 0} {b : List (Frame Read Update)} → Keeps P b → (o : List ℕ) {d : Doc} → P d → (k : ℕ) → P (met apply b o d k)
  unfolding met
  met_keeps keeps [] h k = h
  met_keeps {P} {b} keeps (i ∷ o) {d} h k = met_cases P b i o d k (λ e. h) (λ e. met_keeps keeps o (ran_keeps keeps i h) k)

  -- the document before frame k, where the frames are run one after another
  unfoldable pub stage : List (Frame Read Update) → Doc → ℕ → Doc
  stage b d zero = d
  stage b d (suc k) = ran apply b k (stage b d k)

  pub stage_keeps : {P : Doc → Type 0} {b : List (Frame Read Update)} → Keeps P b → {d : Doc} → P d → (k : ℕ) → P (stage b d k)
  unfolding stage
  stage_keeps keeps h zero = h
  stage_keeps keeps h (suc k) = ran_keeps keeps k (stage_keeps keeps h k)

  stage-next : (b : List (Frame Read Update)) (d : Doc) (k : ℕ) {f : Frame Read Update} → At b k f → stage b d (suc k) ≡ act apply f (stage b d k)
  unfolding stage
  stage-next b d k p = ran_at p (stage b d k)

  -- what each update from frame f up to frame k passes on passes from stage f to stage k
  pub stage_climb : (P : Doc → Type 0) (b : List (Frame Read Update)) (d : Doc) {f k : ℕ} → f ≤ k → k ≤ length b
      → ((j : ℕ) (u : Update) → At b j (update u) → f ≤ j → j < k → P (stage b d j) → P (apply u (stage b d j)))
      → P (stage b d f) → P (stage b d k)
  stage_climb P b d {f} {k} h most step first =
      le_ind (λ m. m ≤ k → P (stage b d m)) (λ a. first) (λ j a rest c. next j a c (rest (omega arith))) k h (omega arith)
    where
      next : (j : ℕ) → f ≤ j → j < k → P (stage b d j) → P (stage b d (suc j))
      next j a c e =
          by_kind b j (omega arith)
          (λ r p. rw (stage-next b d j p) e)
          (λ u p. rw (stage-next b d j p) (step j u p a c e))
