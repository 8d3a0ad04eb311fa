-- An update touches what a read selects exactly if there is a way that the update selects and the read hits.
use Prim.Native.Nat.{ℕ, pred, ◌<◌}
use mathlib.Core.Path.{◌≡◌, sym, ◌∙◌}
use mathlib.Core.Bool.{true, false}
use mathlib.Core.List.{List}
use mathlib.Core.Logic.{◌↔◌}
use lib.ListN.{length}
use borrow.Author.Tests.{lt-ltb, ltb-true}
use Rattle.tables.specs.Limits.{word_limit}
use Rattle.tables.specs.Words.{label}
use Rattle.tables.specs.Patterns.{Pattern}
use Rattle.tables.specs.Documents.{Doc, bare, Sound}
use Rattle.selection.specs.Ways.{up, run, last, selected}
use Rattle.selection.specs.Operations.{hits}
use Rattle.selection.proofs.Up.{way_is}
use Rattle.selection.proofs.Runs.{hits-run}
use Rattle.selection.proofs.Presence.{present_used}
use Rattle.selection.proofs.Selecting.{selecting}
use Rattle.selection.proofs.Hitting.{Hit, hit_hits, hits_hit}
use Rattle.conflict.specs.Conflict.{Update, pattern, Touches}
use Rattle.conflict.specs.Meeting.{meeting_of, fewest_of}
use Rattle.conflict.specs.Crossing.{chain, touches}
use Rattle.conflict.proofs.Meeting.{Labels, Common}
use Rattle.conflict.proofs.Shortest.{length-meeting_of, meeting_of_labels, meeting_of_common, fewest_of-within}
use Rattle.conflict.proofs.Chains.{chain_sound, chain-last, chain-selected-last}
use Rattle.conflict.proofs.Depth.{by_selected}

-- a way that the update selects and the read hits
abbrev pub Touched : List ℕ → List ℕ → List ℕ → Type 0
Touched r p = Common (run r true (last r)) (run p false (last p))

-- the test holds exactly if there is one
module _ (r p : List ℕ) where
  pub touched_touches : (w : List ℕ) → Touched r p w → touches r p ≡ true
  unfolding touches
  touched_touches w both =
      lt-ltb 0 (fewest_of r true p false (last r) (last p)) (fewest_of-within r true p false (last r) (last p) w both).some

  pub touches_touched : touches r p ≡ true → Touched r p (meeting_of r true p false (last r) (last p))
  unfolding touches
  touches_touched e = meeting_of_common r true p false (last r) (last p) (ltb-true 0 (fewest_of r true p false (last r) (last p)) e)

module _ (r : List ℕ) (u : Update) (read : Pattern r) (update : Pattern (pattern u)) where
  -- the last node of the chain of such a way is an update point, and the read selects it or a node above it
  way_point : {w : List ℕ} → Labels w → 0 < length w → Touched r (pattern u) w → Touches r u
  way_point {w} labels some both =
      let t : List ℕ = chain w in
      let v : ℕ = pred (length w) in
      let sound : Sound (bare t) = chain_sound w labels some in
      let point : selected (pattern u) (bare t) v ≡ true = chain-selected-last (pattern u) w some ∙ both.updates in
      let hit : hits r (up t v) ≡ true = rw (chain-last w some, hits-run r w) both.reads in
      by_selected (pattern u) (bare t) v point (λ here updates.
      let inside : v < (bare t).used = present_used (bare t) v here in
      let found : Hit r (bare t) v = hits_hit r (bare t) sound inside (way_is sound v inside) here hit in
      record {
        tree = t;
        sound = sound;
        node = found.place;
        point = v;
        read = (selecting read sound found.place).0 found.chosen;
        update = (selecting update sound v).0 point;
        under = found.above;
      })

  -- the way of an update point at or below a node that the read selects is such a way
  point_way : (t : Touches r u) → Touched r (pattern u) (up t.tree t.point)
  point_way t =
      let d : Doc = bare t.tree in
      let w : List ℕ = up t.tree t.point in
      by_selected (pattern u) d t.point ((selecting update t.sound t.point).1 t.update) (λ here updates.
      let hit : Hit r d t.point = record { place = t.node; above = t.under; chosen = (selecting read t.sound t.node).1 t.read } in
      record { reads = sym (hits-run r w) ∙ hit_hits r d t.sound (present_used d t.point here) hit; updates = updates })

  -- the update touches what the read selects exactly if there is such a way
  pub touching : ((k : ℕ) → label r k < word_limit) → ((k : ℕ) → label (pattern u) k < word_limit) → Touches r u ↔ (touches r (pattern u) ≡ true)
  unfolding touches
  touching names others = (λ t. touched_touches r p (up t.tree t.point) (point_way t), of)
    where
      p : List ℕ
      p = pattern u

      n : ℕ
      n = fewest_of r true p false (last r) (last p)

      of : touches r p ≡ true → Touches r u
      of e =
          way_point (meeting_of_labels r true p false (last r) (last p) names others)
          (rw (length-meeting_of r true p false (last r) (last p)) (ltb-true 0 n e))
          (touches_touched r p e)
