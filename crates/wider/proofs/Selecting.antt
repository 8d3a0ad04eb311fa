-- What a pattern selects, a wider one selects; on every way, and so on every document.
use Prim.Native.Nat.{ℕ, suc, ◌<◌}
use mathlib.Core.Path.{◌≡◌, refl, sym, ◌∙◌}
use mathlib.Core.Bool.{Bool, true, false}
use mathlib.Core.List.{List}
use mathlib.Core.Logic.{◌⊎◌, inl, inr}
use native.Mathlib.Decide.{dec_lt}
use native.Mathlib.Nat.{suc-pred-eq_of_pos, le_of_eq}
use native.Mathlib.Omega.{arith}
use borrow.Author.Tests.{le-ltb, eq-eqb, eqb-true}
use Rattle.tables.specs.Words.{steps, axis}
use Rattle.tables.specs.Patterns.{Pattern}
use Rattle.tables.specs.Documents.{Doc, present}
use Rattle.selection.specs.Embeddings.{Child, Below, Below.one, Embedding, Selects}
use Rattle.selection.specs.Ways.{up, run, takes, stays, last, sel, selected}
use Rattle.selection.specs.Operations.{hits}
use Rattle.selection.proofs.Runs.{both, of-runs, to_runs, run_more, of-takes, to_takes, stays-next, hits-run}
use Rattle.wider.specs.Wider.{WiderLabel, WiderAxis, WiderPattern}

-- a label that agrees still agrees
agrees : {n w l : ℕ} → WiderLabel n w → (n ≡ 0) ⊎ (n ≡ l) → (w ≡ 0) ⊎ (w ≡ l)
agrees (inr e) agree = inl e
agrees (inl e) (inl d) = inl (e ∙ d)
agrees (inl e) (inr d) = inr (e ∙ d)

-- a descendant axis still is one
descends : {n w : ℕ} → WiderAxis n w → n ≡ 2 → w ≡ 2
descends (inl e) d = e ∙ d
descends (inr e) d = e.1

module _ {p q : List ℕ} (wider : WiderPattern p q) where
  pub same-steps : steps q ≡ steps p
  same-steps = rw wider.long refl

  pub same-last : last q ≡ last p
  same-last = rw wider.long refl

  takes_more : (i l : ℕ) → i < steps p → takes p i l ≡ true → takes q i l ≡ true
  takes_more i l h e = to_takes q i l (agrees (wider.labels i h) (of-takes p i l e))

  stays_more : (below : Bool) (i : ℕ) → stays p below i ≡ true → stays q below i ≡ true
  stays_more below i e = go (dec_lt (suc i) (steps p))
    where
      go : Dec (suc i < steps p) → stays q below i ≡ true
      go (yes h) =
          let two : axis p (suc i) ≡ 2 = eqb-true (axis p (suc i)) 2 (sym (stays-next p below i h) ∙ e) in
          stays-next q below i (rw same-steps h) ∙ eq-eqb (axis q (suc i)) 2 (descends (wider.axes i h) two)
      go (no h) =
          let flag : below ≡ true = rw (le-ltb (suc i) (steps p) (omega arith)) at e in
          rw (le-ltb (suc i) (steps q) (rw same-steps (omega arith))) flag

  -- over the labels of a way
  run_wider : (below : Bool) (i : ℕ) (w : List ℕ) → i < steps p → run p below i w ≡ true → run q below i w ≡ true
  unfolding run
  run_wider below i w h e =
      to_runs (takes q) (stays q below)
      (run_more (λ j l b. takes_more j l (omega arith)) (λ j b. stays_more below j) (of-runs (takes p) (stays p below) i w e))

  module _ (some : 0 < steps p) where
    last_inside : last p < steps p
    last_inside = le_of_eq (suc-pred-eq_of_pos some)

    pub sel_wider : (w : List ℕ) → sel p w ≡ true → sel q w ≡ true
    sel_wider w e = rw same-last (run_wider false (last p) w last_inside e)

    pub hits_wider : (w : List ℕ) → hits p w ≡ true → hits q w ≡ true
    hits_wider w e = hits-run q w ∙ rw same-last (run_wider true (last p) w last_inside (sym (hits-run p w) ∙ e))

    -- at a node of a document
    pub selected_wider : (d : Doc) (v : ℕ) → selected p d v ≡ true → selected q d v ≡ true
    unfolding selected
    selected_wider d v e = both (present d v) (sel p (up d.rows v)) e (λ here way. rw (here, sel_wider (up d.rows v) way))

  -- the steps of the wider pattern are placed on the very nodes
  embeds_wider : {d : Doc} {place : ℕ → ℕ} → Embedding p d place → Embedding q d place
  embeds_wider {d} {place} e = record {
    on_present = λ i h. e.on_present i (rw same-steps at h);
    root = e.root;
    labels = λ i h. agrees (wider.labels i (rw same-steps at h)) (e.labels i (rw same-steps at h));
    child = λ i h one. child i (rw same-steps at h) one (wider.axes i (rw same-steps at h));
    descendant = λ i h two. descendant i (rw same-steps at h) two (wider.axes i (rw same-steps at h));
  }
    where
      child : (i : ℕ) → suc i < steps p → axis q (suc i) ≡ 1 → WiderAxis (axis p (suc i)) (axis q (suc i)) → Child d.rows (place i) (place (suc i))
      child i h a (inl same) = e.child i h (sym same ∙ a)
      child i h a (inr made) = absurd (omega (arith, made.1))

      descendant : (i : ℕ) → suc i < steps p → axis q (suc i) ≡ 2 → WiderAxis (axis p (suc i)) (axis q (suc i)) → Below d.rows (place i) (place (suc i))
      descendant i h a (inl same) = e.descendant i h (sym same ∙ a)
      descendant i h a (inr made) = one (e.child i h made.0)

  pub selects_wider : {d : Doc} {v : ℕ} → Selects p d v → Selects q d v
  selects_wider s = record { place = s.place; embeds = embeds_wider s.embeds; output = rw same-last s.output }

  -- a wider pattern of a pattern is one
  pub pattern_wider : Pattern p → Pattern q
  pattern_wider pattern = record {
    some = rw same-steps pattern.some;
    first = wider.first ∙ pattern.first;
    later = λ i h. later i (wider.axes i (rw same-steps at h)) (pattern.later i (rw same-steps at h));
  }
    where
      later : (i : ℕ) → WiderAxis (axis p (suc i)) (axis q (suc i)) → (axis p (suc i) ≡ 1) ⊎ (axis p (suc i) ≡ 2) → (axis q (suc i) ≡ 1) ⊎ (axis q (suc i) ≡ 2)
      later i (inr made) was = inr made.1
      later i (inl same) (inl child) = inl (same ∙ child)
      later i (inl same) (inr below) = inr (same ∙ below)
