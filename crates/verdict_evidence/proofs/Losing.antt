-- A delete on a sound tree: the nodes lost are those that the read selects and the delete hits, none is gained, and the root stays.
use Prim.Native.Nat.{ℕ, ◌<◌}
use mathlib.Core.Path.{◌≡◌, refl, sym, ◌∙◌}
use mathlib.Core.Bool.{Bool, true, false, ◌&&◌, not, and-false, false≢true, true≢false}
use mathlib.Core.List.{List}
use mathlib.Core.Logic.{◌↔◌}
use Rattle.tables.specs.Words.{steps, nodes, tag}
use Rattle.tables.specs.Patterns.{Pattern}
use Rattle.tables.specs.Documents.{Doc, bare, Sound}
use Rattle.selection.specs.Embeddings.{Selects}
use Rattle.selection.specs.Ways.{up, selected}
use Rattle.selection.specs.Operations.{hits, deleted}
use Rattle.selection.proofs.Runs.{both}
use Rattle.selection.proofs.Up.{up_top}
use Rattle.selection.proofs.Selecting.{selecting}
use Rattle.selection.proofs.Inserting.{selected_used}
use Rattle.selection.proofs.Deleting.{deleted_selects, deleted_sound, one_label}
use Rattle.conflict.specs.Conflict.{delete, Differs, lost, gained}
use Rattle.verdict_evidence.specs.Promise.{Lost, Gained}
use Rattle.verdict_evidence.specs.Finding.{losing}

-- where selection by the run is the same on two sound documents, so is selection
pub alike : {r : List ℕ} {d d' : Doc} → Pattern r → Sound d → Sound d' → (v : ℕ) → selected r d' v ≡ selected r d v → Selects r d v ↔ Selects r d' v
alike pattern sound sound' v same =
    (λ s. (selecting pattern sound' v).0 (same ∙ (selecting pattern sound v).1 s), λ s. (selecting pattern sound v).0 (sym same ∙ (selecting pattern sound' v).1 s))

module _ (r p t : List ℕ) where
  -- a node that is not lost is selected as before
  keeps : (v : ℕ) → losing r p t v ≡ false → selected r (deleted p (bare t)) v ≡ selected r (bare t) v
  unfolding losing
  keeps v e = deleted_selects r p (bare t) v ∙ go (selected r (bare t) v) (hits p (up t v)) e
    where
      go : (a b : Bool) → (a && b) ≡ false → (a && not b) ≡ a
      go true true q = absurd (true≢false q)
      go true false q = refl
      go false b q = refl

  -- a node that is lost is one that the read selects, and after the delete does not select
  loses : {X : Type 0} (v : ℕ) → losing r p t v ≡ true → (selected r (bare t) v ≡ true → selected r (deleted p (bare t)) v ≡ false → X) → X
  unfolding losing
  loses v e f =
      both (selected r (bare t) v) (hits p (up t v)) e
      (λ here hit. f here (rw (deleted_selects r p (bare t) v, here, hit) refl))

  -- only nodes of the tree are lost
  pub losing_below : (v : ℕ) → losing r p t v ≡ true → v < nodes t
  losing_below v e = loses v e (λ here gone. selected_used r (bare t) v here)

  -- no node is lost where none of the tree's nodes is
  pub none_losing : ((v : ℕ) → v < nodes t → losing r p t v ≡ false) → (v : ℕ) → losing r p t v ≡ false
  none_losing clear v = go (losing r p t v) refl
    where
      go : (b : Bool) → losing r p t v ≡ b → b ≡ false
      go true e = sym e ∙ clear v (losing_below v e)
      go false e = refl

module _ (r p t : List ℕ) (two : 1 < steps p) where
  -- the root is not lost
  pub losing-root : losing r p t 0 ≡ false
  unfolding losing
  losing-root = rw (up_top t, one_label p two (tag t 0), and-false)

  module _ (pattern : Pattern r) (sound : Sound (bare t)) where
    behind : Sound (deleted p (bare t))
    behind = deleted_sound p (bare t) two sound

    pub losing-lost : (v : ℕ) → losing r p t v ≡ true → Lost r (delete p) (bare t) v
    losing-lost v e =
        loses r p t v e
        (λ here gone. record { before = (selecting pattern sound v).0 here; gone = λ s. false≢true (sym gone ∙ (selecting pattern behind v).1 s) })

    pub losing_alike : (v : ℕ) → losing r p t v ≡ false → Selects r (bare t) v ↔ Selects r (deleted p (bare t)) v
    losing_alike v e = alike pattern sound behind v (keeps r p t v e)

    -- no node is gained
    pub none_gained : (v : ℕ) → Gained r (delete p) (bare t) v → ⊥
    none_gained v g =
        both (selected r (bare t) v) (not (hits p (up t v))) (sym (deleted_selects r p (bare t) v) ∙ (selecting pattern behind v).1 g.behind)
        (λ here clear. g.absent ((selecting pattern sound v).0 here))

    -- where no node is lost, the sets are the same
    pub losing_none : ((v : ℕ) → losing r p t v ≡ false) → Differs r (delete p) (bare t) → ⊥
    losing_none clear (lost v here gone) = gone ((losing_alike v (clear v)).0 here)
    losing_none clear (gained v gone here) = gone ((losing_alike v (clear v)).1 here)
