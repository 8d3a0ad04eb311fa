-- The way of a present node is hit exactly if the node, or one above it, is selected.
use Prim.Native.Nat.{ℕ, ◌<◌}
use mathlib.Core.Path.{◌≡◌, refl, ◌∙◌}
use mathlib.Core.Bool.{true, false, or-true, false≢true}
use mathlib.Core.List.{List}
use mathlib.Core.Logic.{inl, inr}
use native.Mathlib.Omega.{arith}
use Rattle.tables.specs.Words.{parent}
use Rattle.tables.specs.Documents.{Doc, present, Sound}
use Rattle.selection.specs.Embeddings.{Child, Below, Below.one, Below.more, AtOrBelow}
use Rattle.selection.specs.Ways.{up, last, sel, selected}
use Rattle.selection.specs.Operations.{hits}
use Rattle.selection.proofs.Runs.{both, either, hits-run, run_below}
use Rattle.selection.proofs.Up.{Up, top, node, way_of, way_node}

-- a node at which p selects, here or above
pub record Hit (p : List ℕ) (d : Doc) (v : ℕ) : Type 0 where
  pub place : ℕ
  pub above : AtOrBelow d.rows place v
  pub chosen : selected p d place ≡ true

module _ (p : List ℕ) (d : Doc) (sound : Sound d) where
  hit_child : {u v : ℕ} → Child d.rows u v → v < d.used → hits p (up d.rows u) ≡ true → hits p (up d.rows v) ≡ true
  unfolding hits
  hit_child {u} {v} c h e = rw (way_node sound v c.not_root h, c.under, e, or-true)

  hit_below : {u v : ℕ} → Below d.rows u v → v < d.used → hits p (up d.rows u) ≡ true → hits p (up d.rows v) ≡ true
  hit_below (one c) h e = hit_child c h e
  hit_below (more {w = w} {v = v} b c) h e =
      let less : parent d.rows v < v = sound.parents v c.not_root h in
      let inside : w < d.used = omega (arith, c.under) in
      hit_child c h (hit_below b inside e)

  pub hit_here : (v : ℕ) → selected p d v ≡ true → hits p (up d.rows v) ≡ true
  unfolding selected
  hit_here v e =
      both (present d v) (sel p (up d.rows v)) e
      (λ here way. hits-run p (up d.rows v) ∙ run_below p (last p) (up d.rows v) way)

  pub hit_hits : {v : ℕ} → v < d.used → Hit p d v → hits p (up d.rows v) ≡ true
  hit_hits {v} h hit = go hit.above
    where
      go : AtOrBelow d.rows hit.place v → hits p (up d.rows v) ≡ true
      go (inl e) = rw e (hit_here hit.place hit.chosen)
      go (inr b) = hit_below b h (hit_here hit.place hit.chosen)

  selects_here : {v : ℕ} {w : List ℕ} → v < d.used → Up d.rows v w → present d v ≡ true → sel p w ≡ true → Hit p d v
  unfolding selected
  selects_here {v} h u e s = record { place = v; above = inl refl; chosen = rw (e, way_of sound h u) s }

  further : {v : ℕ} → 0 < v → Hit p d (parent d.rows v) → Hit p d v
  further {v} h hit = record { place = hit.place; above = inr (go hit.above); chosen = hit.chosen }
    where
      go : AtOrBelow d.rows hit.place (parent d.rows v) → Below d.rows hit.place v
      go (inl e) = one (record { not_root = h; under = e })
      go (inr b) = more b (record { not_root = h; under = refl })

  pub hits_hit : {v : ℕ} {w : List ℕ} → v < d.used → Up d.rows v w → present d v ≡ true → hits p w ≡ true → Hit p d v
  unfolding hits
  hits_hit h top e q = either (sel p _) false q (λ s. selects_here h top e s) (λ no. absurd (false≢true no))
  hits_hit h (node {v = v} {w = w} k u) e q =
      let less : parent d.rows v < v = sound.parents v k h in
      either (sel p _) (hits p w) q (λ s. selects_here h (node k u) e s) (λ b. further k (hits_hit (omega arith) u (sound.closed v k e) b))
