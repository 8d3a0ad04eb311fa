-- Selection by embeddings is the run over the labels from the node up to the root.
use Prim.Native.Nat.{ℕ, zero, suc, ◌<◌, ◌≤◌}
use mathlib.Core.Path.{◌≡◌, refl, sym, ◌∙◌, ap}
use mathlib.Core.Bool.{Bool, true, false, cond, false≢true}
use mathlib.Core.List.{List, [], ◌∷◌, cons≢nil}
use mathlib.Core.Logic.Iff
use mathlib.Core.Logic.{◌⊎◌, inl, inr, ⊎_elim, ◌↔◌}
use native.Mathlib.Nat.{eq-or-lt_of_le, le-pred_of_lt, le_of_eq, suc-pred-eq_of_pos}
use native.Mathlib.Omega.{arith}
use lib.Dec.{leb}
use borrow.Author.Tests.{eq-eqb, le-leb, lt-leb}
use Rattle.tables.specs.Words.{steps, axis, label, parent, tag}
use Rattle.tables.specs.Patterns.{Pattern}
use Rattle.tables.specs.Documents.{Doc, Sound, present}
use Rattle.selection.specs.Embeddings.{Child, Below, Below.one, Below.more, Embedding, Selects}
use Rattle.selection.specs.Ways.{up, run, takes, stays, last, sel, selected}
use Rattle.selection.proofs.Up.{Up, Up.top, Up.node, way_is}
use Rattle.selection.proofs.Presence.{present_used}
use Rattle.selection.proofs.Runs.{Run, Run.first, Run.step, Run.pass, both, of-runs, to_runs, of-takes, to_takes, stays-last, stays-next, stays-axis}

pub selected-present : (p : List ℕ) (d : Doc) (v : ℕ) → present d v ≡ true → selected p d v ≡ sel p (up d.rows v)
unfolding selected
selected-present p d v here = rw here

module _ (p : List ℕ) (d : Doc) where
  -- state i is reached over every way of u
  abbrev Over : ℕ → ℕ → Type 0
  Over i u = (w : List ℕ) → Up d.rows u w → Run (takes p) (stays p false) i w

  step_child : {i u v : ℕ} → Over i u → Child d.rows u v → takes p (suc i) (tag d.rows v) ≡ true → Over (suc i) v
  step_child over child h w top = absurd (omega (arith, child.not_root))
  step_child over child h w (node {w = rest} k r) = step h (over rest (rw child.under at r))

  pass_child : {i u v : ℕ} → stays p false i ≡ true → Over i u → Child d.rows u v → Over i v
  pass_child stay over child w top = absurd (omega (arith, child.not_root))
  pass_child stay over child w (node {w = rest} k r) = pass stay (over rest (rw child.under at r))

  pass_below : {i u v : ℕ} → stays p false i ≡ true → Over i u → Below d.rows u v → Over i v
  pass_below stay over (one child) = pass_child stay over child
  pass_below stay over (more b child) = pass_child stay (pass_below stay over b) child

  step_below : {i u v : ℕ} → stays p false i ≡ true → Over i u → Below d.rows u v → takes p (suc i) (tag d.rows v) ≡ true → Over (suc i) v
  step_below stay over (one child) = step_child over child
  step_below stay over (more b child) = step_child (pass_below stay over b) child

  first_over : takes p 0 (tag d.rows 0) ≡ true → Over 0 0
  first_over h w top = first h
  first_over h w (node k r) = absurd (omega arith)

  -- an embedding is a run over the way of each of its nodes
  embedded_over : Pattern p → (place : ℕ → ℕ) → Embedding p d place → (i : ℕ) → i < steps p → Over i (place i)
  embedded_over pattern place e zero b =
      rw e.root (first_over (rw e.root at (to_takes p 0 (tag d.rows (place 0)) (e.labels 0 b))))
  embedded_over pattern place e (suc i) b =
      let over : Over i (place i) = embedded_over pattern place e i (omega arith) in
      let h : takes p (suc i) (tag d.rows (place (suc i))) ≡ true = to_takes p (suc i) _ (e.labels (suc i) b) in
      ⊎_elim
      (λ a. step_child over (e.child i b a) h)
      (λ a. step_below (stays-next p false i b ∙ eq-eqb (axis p (suc i)) 2 a) over (e.descendant i b a) h)
      (pattern.later i b)

-- step i of p may land on v
record Fits (p : List ℕ) (d : Doc) (i v : ℕ) : Type 0 where
  here : present d v ≡ true
  labelled : (label p i ≡ 0) ⊎ (label p i ≡ tag d.rows v)

-- the axis after step i holds from u to v
record Joined (p : List ℕ) (d : Doc) (i u v : ℕ) : Type 0 where
  child : axis p (suc i) ≡ 1 → Child d.rows u v
  descendant : axis p (suc i) ≡ 2 → Below d.rows u v

-- steps 0 to i placed one after the other, step i on v
data Chain (p : List ℕ) (d : Doc) : ℕ → ℕ → Type 0 where
  start : Fits p d 0 0 → Chain p d 0 0
  next : {i u v : ℕ} → Chain p d i u → Fits p d (suc i) v → Joined p d i u v → Chain p d (suc i) v

module _ (p : List ℕ) (d : Doc) where
  spots : {i v : ℕ} → Chain p d i v → ℕ → ℕ
  spots (start f) j = 0
  spots (next {i = i} {v = v} c f g) j = cond (leb j i) (spots c j) v

  spot_end : {i v : ℕ} (c : Chain p d i v) → spots c i ≡ v
  unfolding spots
  spot_end (start f) = refl
  spot_end (next {i = i} c f g) = rw (lt-leb (suc i) i (omega arith))

  spot_old : {i u v : ℕ} (c : Chain p d i u) (f : Fits p d (suc i) v) (g : Joined p d i u v) (j : ℕ) → j ≤ i → spots (next c f g) j ≡ spots c j
  unfolding spots
  spot_old {i} c f g j h = rw (le-leb j i h)

  spot_root : {i v : ℕ} (c : Chain p d i v) → spots c 0 ≡ 0
  unfolding spots
  spot_root (start f) = refl
  spot_root (next c f g) = spot_old c f g 0 (omega arith) ∙ spot_root c

  spot_fits : {i v : ℕ} (c : Chain p d i v) (j : ℕ) → j ≤ i → Fits p d j (spots c j)
  spot_fits (start f) j h =
      let e : j ≡ 0 = omega arith in
      rw (e, spot_end (start f)) f
  spot_fits (next {i = i} c f g) j h =
      ⊎_elim
      (λ (e : j ≡ suc i). rw (e, spot_end (next c f g)) f)
      (λ (l : j < suc i). rw (spot_old c f g j (omega arith)) (spot_fits c j (omega arith)))
      (eq-or-lt_of_le h)

  spot_joined : {i v : ℕ} (c : Chain p d i v) (j : ℕ) → j < i → Joined p d j (spots c j) (spots c (suc j))
  spot_joined (start f) j h = absurd (omega arith)
  spot_joined (next {i = i} c f g) j h =
      rw (spot_old c f g j (omega arith))
      (⊎_elim
      (λ (e : suc j ≡ suc i).
      let same : j ≡ i = omega arith in
      rw (same, spot_end c, spot_end (next c f g)) g)
      (λ (l : suc j < suc i). rw (spot_old c f g (suc j) (omega arith)) (spot_joined c j (omega arith)))
      (eq-or-lt_of_le h))

  -- a chain of all steps is an embedding
  chain_embeds : {v : ℕ} (c : Chain p d (last p) v) → Embedding p d (spots c)
  chain_embeds c =
      record {
        on_present = λ i b. (spot_fits c i (le-pred_of_lt b)).here;
        root = spot_root c;
        labels = λ i b. (spot_fits c i (le-pred_of_lt b)).labelled;
        child = λ i b. (spot_joined c i (le-pred_of_lt b)).child;
        descendant = λ i b. (spot_joined c i (le-pred_of_lt b)).descendant;
      }

-- where a run in state i stands at v: step i landed on v, or above it, and may stay
data Landed (p : List ℕ) (d : Doc) (i v : ℕ) : Type 0 where
  on : Chain p d i v → Landed p d i v
  above : {u : ℕ} → stays p false i ≡ true → Chain p d i u → Below d.rows u v → Landed p d i v

no_way : {t : List ℕ} {v : ℕ} → Up t v [] → ⊥
no_way u = elim u [ ]

child_of_lem : {t : List ℕ} {v : ℕ} → 0 < v → Child t (parent t v) v
child_of_lem h = record { not_root = h; under = refl }

module _ (p : List ℕ) (d : Doc) where
  land : {i v : ℕ} → 0 < v → Fits p d (suc i) v → Landed p d i (parent d.rows v) → Chain p d (suc i) v
  land h f (on c) = next c f (record { child = λ a. child_of_lem h; descendant = λ a. one (child_of_lem h) })
  land {i} h f (above stay c b) =
      let two : axis p (suc i) ≡ 2 = stays-axis p i stay in
      next c f (record { child = λ a. absurd (omega arith); descendant = λ a. more b (child_of_lem h) })

  linger : {i v : ℕ} → 0 < v → stays p false i ≡ true → Landed p d i (parent d.rows v) → Landed p d i v
  linger h stay (on c) = above stay c (one (child_of_lem h))
  linger h stay (above also c b) = above stay c (more b (child_of_lem h))

  -- what a way of v is: the root's label alone, or v's label before a way of its parent
  abbrev Opens : ℕ → List ℕ → Type 0
  Opens v [] = ⊥
  Opens v (l ∷ w) = (l ≡ tag d.rows v) × (((v ≡ 0) × (w ≡ [])) ⊎ ((0 < v) × Up d.rows (parent d.rows v) w))

  opens : {v : ℕ} {w : List ℕ} → Up d.rows v w → Opens v w
  opens top = (refl, inl (refl, refl))
  opens (node k u) = (refl, inr (k, u))

  no_run : {A : Type 0} {take : ℕ → ℕ → Bool} {stay : ℕ → Bool} {i : ℕ} {w : List ℕ} → w ≡ [] → Run take stay i w → A
  no_run e (first h) = absurd (cons≢nil e)
  no_run e (step h r) = absurd (cons≢nil e)
  no_run e (pass h r) = absurd (cons≢nil e)

  -- a run over the way of a present node lands its steps on present nodes
  lands : Sound d → {i v : ℕ} {w : List ℕ} → Run (takes p) (stays p false) i w → Up d.rows v w → present d v ≡ true → Landed p d i v
  lands sound {v = v} (first {l = l} h) u here =
      ⊎_elim
      (λ root. rw root.0 (on (start (record { here = rw root.0 at here; labelled = of-takes p 0 _ (rw root.0 at (rw (opens u).0 at h)) }))))
      (λ more. absurd (no_way more.1))
      (opens u).1
  lands sound {v = v} (step {i = i} h r) u here =
      ⊎_elim
      (λ root. no_run root.1 r)
      (λ more. on (land more.0 (record { here = here; labelled = of-takes p (suc i) _ (rw (opens u).0 at h) }) (lands sound r more.1 (sound.closed v more.0 here))))
      (opens u).1
  lands sound {v = v} (pass stay r) u here =
      ⊎_elim
      (λ root. no_run root.1 r)
      (λ more. linger more.0 stay (lands sound r more.1 (sound.closed v more.0 here)))
      (opens u).1

  -- the last state cannot stay
  landed-last : {v : ℕ} → Landed p d (last p) v → Chain p d (last p) v
  landed-last (on c) = c
  landed-last (above stay c b) = absurd (false≢true (sym (stays-last p false) ∙ stay))

  selects_of : Sound d → (v : ℕ) → selected p d v ≡ true → Selects p d v
  unfolding selected run
  selects_of sound v e = both (present d v) (sel p (up d.rows v)) e placed
    where
      chain : present d v ≡ true → sel p (up d.rows v) ≡ true → Chain p d (last p) v
      chain here r =
          landed-last
          (lands sound (of-runs (takes p) (stays p false) (last p) (up d.rows v) r) (way_is sound v (present_used d v here)) here)

      placed : present d v ≡ true → sel p (up d.rows v) ≡ true → Selects p d v
      placed here r =
          let c : Chain p d (last p) v = chain here r in
          record { place = spots p d c; embeds = chain_embeds p d c; output = spot_end p d c }

  selected-of : Pattern p → Sound d → (v : ℕ) → Selects p d v → selected p d v ≡ true
  unfolding selected run
  selected-of pattern sound v s =
      let b : last p < steps p = le_of_eq (suc-pred-eq_of_pos pattern.some) in
      let here : present d v ≡ true = rw s.output at (s.embeds.on_present (last p) b) in
      let over : Over p d (last p) v = rw s.output at (embedded_over p d pattern s.place s.embeds (last p) b) in
      rw (here, to_runs (takes p) (stays p false) (over (up d.rows v) (way_is sound v (present_used d v here))))

-- selection by embeddings is selection by the run
pub selecting : {p : List ℕ} {d : Doc} → Pattern p → Sound d → (v : ℕ) → (selected p d v ≡ true) ↔ Selects p d v
selecting {p} {d} pattern sound v = (selects_of p d sound v, selected-of p d pattern sound v)

-- a pattern tells present nodes apart only by the labels on their ways
pub selected_by_labels : (p : List ℕ) (d d' : Doc) (v v' : ℕ) → present d v ≡ true → present d' v' ≡ true → up d.rows v ≡ up d'.rows v' → selected p d v ≡ selected p d' v'
selected_by_labels p d d' v v' here here' same =
    selected-present p d v here ∙ ap (sel p) same ∙ sym (selected-present p d' v' here')

pub selects_by_labels : {p : List ℕ} {d d' : Doc} → Pattern p → Sound d → Sound d' → (v v' : ℕ) → present d v ≡ true → present d' v' ≡ true → up d.rows v ≡ up d'.rows v' → Selects p d v ↔ Selects p d' v'
selects_by_labels {p} {d} {d'} pattern sound sound' v v' here here' same =
    Iff.trans
    (rw (selected_by_labels p d d' v v' here here' same) at (Iff.symm (selecting pattern sound v)))
    (selecting pattern sound' v')
