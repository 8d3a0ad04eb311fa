-- A read and a delete conflict exactly if the read selects at the end of some way that the delete hits; the shortest such way decides it.
use Prim.Native.Nat.{ℕ, pred, ◌+◌, ◌<◌}
use native.Mathlib.Nat.{suc-pred-eq_of_pos}
use native.Mathlib.Omega.{arith}
use mathlib.Core.Path.{◌≡◌, refl, sym, ◌∙◌}
use mathlib.Core.Bool.{true, false, false≢true}
use mathlib.Core.List.{List}
use borrow.Author.Tests.{not-false}
use lib.ListN.{length}
use Rattle.tables.specs.Limits.{word_limit}
use Rattle.tables.specs.Words.{steps, label}
use Rattle.tables.specs.Patterns.{Pattern}
use Rattle.tables.specs.Documents.{Doc, bare, Sound}
use Rattle.selection.specs.Embeddings.{Selects}
use Rattle.selection.specs.Ways.{up, run, last, selected}
use Rattle.selection.specs.Operations.{hits, deleted}
use Rattle.selection.proofs.Runs.{hits-run}
use Rattle.selection.proofs.Selecting.{selecting}
use Rattle.selection.proofs.Hitting.{hit_here}
use Rattle.selection.proofs.Deleting.{deleted_selects, deleted_sound}
use Rattle.conflict.specs.Conflict.{delete, Differs, Witness, Conflict, Smallest}
use Rattle.conflict.specs.Meeting.{fewest_of}
use Rattle.conflict.specs.Crossing.{delete_way, chain}
use Rattle.conflict.proofs.Steps.{Within}
use Rattle.conflict.proofs.Meeting.{Labels, Common}
use Rattle.conflict.proofs.Shortest.{length-meeting_of, fewest_of_most, meeting_of_labels, meeting_of_common, fewest_of-within}
use Rattle.conflict.proofs.Chains.{chain_sound, chain-last, chain-selected-last}
use Rattle.conflict.proofs.Depth.{by_selected, Reached}
use Rattle.conflict.proofs.Smallest.{Decides, by_differs, differs_at, differs_conflict, smallest, unchanged}

-- a way that the read selects and the delete hits
abbrev pub Cut : List ℕ → List ℕ → List ℕ → Type 0
Cut r p = Common (run r false (last r)) (run p true (last p))

module _ (r p : List ℕ) where
  -- as many labels as the fewest on which the read's last state, which may not stay, and the delete's, which may, are met
  delete_way-length : length (delete_way r p) ≡ fewest_of r false p true (last r) (last p)
  unfolding delete_way
  delete_way-length = length-meeting_of r false p true (last r) (last p)

  -- delete_way is the shortest of these: one where it is not empty, and no longer than any other
  pub delete_way_cut : 0 < length (delete_way r p) → Cut r p (delete_way r p)
  unfolding delete_way
  delete_way_cut h = meeting_of_common r false p true (last r) (last p) (rw delete_way-length at h)

  pub delete_way-within : (w : List ℕ) → Cut r p w → Within (length (delete_way r p)) (length w)
  delete_way-within w c = rw delete_way-length (fewest_of-within r false p true (last r) (last p) w c)

  -- it has fewer labels than both patterns have steps together
  pub delete_way_most : 0 < steps r → 0 < steps p → length (delete_way r p) < steps r + steps p
  delete_way_most h k =
      rw delete_way-length (omega (arith, fewest_of_most r false p true (last r) (last p), suc-pred-eq_of_pos h, suc-pred-eq_of_pos k))

  -- each one that a node may have
  pub delete_way_labels : ((k : ℕ) → label r k < word_limit) → ((k : ℕ) → label p k < word_limit) → Labels (delete_way r p)
  unfolding delete_way
  delete_way_labels = meeting_of_labels r false p true (last r) (last p)

-- a node that the read selects and the delete hits
pub record Loss (r p : List ℕ) (d : Doc) : Type 0 where
  pub node : ℕ
  pub chosen : selected r d node ≡ true
  pub hit : hits p (up d.rows node) ≡ true

module _ (r p : List ℕ) (pattern : Pattern r) (two : 1 < steps p) where
  -- the sets differ exactly where there is one: it is lost, and no node is gained
  pub loss_of : {d : Doc} → Sound d → Differs r (delete p) d → Loss r p d
  loss_of {d} sound differs =
      by_differs pattern sound (deleted_sound p d two sound) differs
      (λ v here gone. record { node = v; chosen = here; hit = not-false (hits p (up d.rows v)) (rw (deleted_selects r p d v, here) at gone) })
      (λ v gone here. absurd (false≢true (rw (deleted_selects r p d v, gone) at here)))

  pub of_loss : {d : Doc} → Sound d → Loss r p d → Differs r (delete p) d
  of_loss {d} sound l =
      let gone : selected r (deleted p d) l.node ≡ false = rw (deleted_selects r p d l.node, l.chosen, l.hit) refl in
      differs_at pattern sound (deleted_sound p d two sound) l.node (λ e. false≢true (sym gone ∙ e ∙ l.chosen))

  -- the way of such a node is one that the read selects and the delete hits: so where the sets differ, delete_way has no more labels
  pub delete_reached : (d : Doc) → Sound d → Differs r (delete p) d → Reached (length (delete_way r p)) d
  delete_reached d sound differs =
      let l : Loss r p d = loss_of sound differs in
      let w : List ℕ = up d.rows l.node in
      by_selected r d l.node l.chosen (λ there reads.
      record { at = l.node; here = there; within = delete_way-within r p w (record { reads = reads; updates = sym (hits-run p w) ∙ l.hit }) })

  -- a tree of which both select a node is a witness
  pub lost-selected : Pattern p → {t : List ℕ} → Sound (bare t) → (v : ℕ) → Selects r (bare t) v → Selects p (bare t) v → Witness r (delete p) t
  lost-selected other {t} sound v reads updates =
      let hit : hits p (up t v) ≡ true = hit_here p (bare t) sound v ((selecting other sound v).1 updates) in
      record { sound = sound; differs = of_loss sound (record { node = v; chosen = (selecting pattern sound v).1 reads; hit = hit }) }

  module _ (names : (k : ℕ) → label r k < word_limit) (others : (k : ℕ) → label p k < word_limit) where
    -- the chain of the way loses its last node
    pub delete_witness : 0 < length (delete_way r p) → Witness r (delete p) (chain (delete_way r p))
    delete_witness h =
        let t : List ℕ = chain (delete_way r p) in
        let v : ℕ = pred (length (delete_way r p)) in
        let cut : Cut r p (delete_way r p) = delete_way_cut r p h in
        let sound : Sound (bare t) = chain_sound (delete_way r p) (delete_way_labels r p names others) h in
        let here : selected r (bare t) v ≡ true = chain-selected-last r (delete_way r p) h ∙ cut.reads in
        let hit : hits p (up t v) ≡ true = rw (chain-last (delete_way r p) h, hits-run p (delete_way r p)) cut.updates in
        record { sound = sound; differs = of_loss sound (record { node = v; chosen = here; hit = hit }) }

    -- so the way decides
    pub decides_delete : Decides r (delete p) (delete_way r p)
    decides_delete = record { witness = delete_witness; reached = delete_reached }

    -- the way's labels are as many as a smallest witness has nodes
    pub smallest_delete : Smallest r (delete p) (length (delete_way r p))
    smallest_delete = smallest decides_delete

    -- a difference on any sound document is a conflict
    pub differs_delete : {d : Doc} → Sound d → Differs r (delete p) d → Conflict r (delete p)
    differs_delete = differs_conflict decides_delete

    -- where there is no conflict, no sound document's selection changes
    pub unchanged_delete : (Conflict r (delete p) → ⊥) → (d : Doc) → Sound d → (v : ℕ) → selected r (deleted p d) v ≡ selected r d v
    unchanged_delete clear d sound = unchanged decides_delete clear pattern sound (deleted_sound p d two sound)
