-- Where a read and an update do not conflict, the update leaves the read its nodes; where they do not conflict deeply, also what lies below these.
use Prim.Native.Nat.{ℕ, ◌<◌}
use mathlib.Core.Path.{◌≡◌, sym, ◌∙◌}
use mathlib.Core.Bool.{true, false, not}
use mathlib.Core.List.{List}
use mathlib.Core.Logic.Iff
use mathlib.Core.Logic.{◌↔◌, inl, inr}
use Rattle.tables.specs.Limits.{word_limit}
use Rattle.tables.specs.Words.{steps, label}
use Rattle.tables.specs.Patterns.{Pattern}
use Rattle.tables.specs.Documents.{Doc, bare, present, Sound}
use Rattle.selection.specs.Embeddings.{AtOrBelow, Selects}
use Rattle.selection.specs.Ways.{up, sel, selected}
use Rattle.selection.specs.Operations.{hits, deleted, inserted, stored}
use Rattle.selection.specs.Showing.{PresentBelow, SameNodes, SameBelow}
use Rattle.selection.proofs.Runs.{both, hits-run}
use Rattle.selection.proofs.Presence.{present_used}
use Rattle.selection.proofs.Selecting.{selecting}
use Rattle.selection.proofs.Hitting.{hit_hits}
use Rattle.selection.proofs.Deleting.{present-deleted, stays-present, deleted_sound}
use Rattle.selection.proofs.Keeping.{Kept, kept_present}
use Rattle.selection.proofs.Inserting.{inserted_kept, selected_used, stored_cases, stored_sound}
use Rattle.selection.proofs.Beneath.{kept_below, inserted_below}
use Rattle.conflict.specs.Conflict.{Update, delete, insert, pattern, Conflict, Touches, Deep}
use Rattle.conflict.proofs.Depth.{by_selected}
use Rattle.conflict.proofs.Smallest.{not_true_false}
use Rattle.conflict.proofs.Deletes.{unchanged_delete}
use Rattle.conflict.proofs.Inserts.{unchanged_insert}
use Rattle.conflict.proofs.Deeps.{touched_touches, touching}
use Rattle.conflict.proofs.Both.{both_hit}

-- where the run selects alike, so do embeddings
same_nodes : {r : List ℕ} {d e : Doc} → Pattern r → Sound d → Sound e → ((v : ℕ) → selected r d v ≡ selected r e v) → SameNodes r d e
same_nodes pattern sound sound' same =
    record { nodes = λ v. Iff.trans (rw (same v) at (Iff.symm (selecting pattern sound v))) (selecting pattern sound' v) }

-- the way of a used node at or below one that the read selects is hit by the read
hit_under : {r : List ℕ} {d : Doc} → Pattern r → Sound d → {v w : ℕ} → Selects r d v → AtOrBelow d.rows v w → w < d.used → hits r (up d.rows w) ≡ true
hit_under {r} {d} reads sound {v} s under h =
    hit_hits r d sound h (record { place = v; above = under; chosen = (selecting reads sound v).1 s })

-- an update that selects at the end of a way that the read hits touches what the read selects
touches_at : (r : List ℕ) (u : Update) → Pattern r → Pattern (pattern u) → ((k : ℕ) → label r k < word_limit) → ((k : ℕ) → label (pattern u) k < word_limit)
    → (w : List ℕ) → sel (pattern u) w ≡ true → hits r w ≡ true → Touches r u
touches_at r u reads update names others w here hit =
    (touching r u reads update names others).1 (touched_touches r (pattern u) w (record { reads = sym (hits-run r w) ∙ hit; updates = here }))

module _ (r p : List ℕ) (reads : Pattern r) (update : Pattern p) (two : 1 < steps p)
    (names : (k : ℕ) → label r k < word_limit) (others : (k : ℕ) → label p k < word_limit) where
  -- without a conflict the delete leaves the read its nodes
  pub nodes_delete : (Conflict r (delete p) → ⊥) → (d : Doc) → Sound d → SameNodes r (deleted p d) d
  nodes_delete clear d sound =
      same_nodes reads (deleted_sound p d two sound) sound (unchanged_delete r p reads two names others clear d sound)

  -- without a deep conflict no way is hit by both
  hits_apart : (Deep r (delete p) → ⊥) → (w : List ℕ) → hits r w ≡ true → hits p w ≡ false
  hits_apart clear w hit = not_true_false (λ struck. clear (both_hit r p reads update two names others w hit struck))

  -- so the delete removes nothing below a node that the read selects
  pub beneath_delete : (Deep r (delete p) → ⊥) → (d : Doc) → Sound d → SameBelow r (deleted p d) d
  unfolding deleted
  beneath_delete clear d sound = record { nodes = same.nodes; below = λ v s w. (before w, remains v ((same.nodes v).0 s) w) }
    where
      same : SameNodes r (deleted p d) d
      same = nodes_delete (λ c. clear (inl c)) d sound

      before : {v : ℕ} (w : ℕ) → PresentBelow (deleted p d) v w → PresentBelow d v w
      before w b = record {
        below = b.below;
        there = both (present d w) (not (hits p (up d.rows w))) (rw present-deleted at b.there) (λ here clear. here);
      }

      remains : (v : ℕ) → Selects r d v → (w : ℕ) → PresentBelow d v w → PresentBelow (deleted p d) v w
      remains v s w b = record {
        below = b.below;
        there =
            stays-present p d w b.there
            (hits_apart clear (up d.rows w) (hit_under reads sound s (inr b.below) (present_used d w b.there)));
      }

module _ (r p x : List ℕ) (reads : Pattern r) (update : Pattern p) (tree : Sound (bare x))
    (names : (k : ℕ) → label r k < word_limit) (others : (k : ℕ) → label p k < word_limit) where
  -- without a conflict the insert leaves the read its nodes
  pub nodes_insert : (Conflict r (insert p x) → ⊥) → (d : Doc) → Sound d → SameNodes r (stored p x d) d
  nodes_insert clear d sound =
      same_nodes reads (stored_sound p x d tree sound) sound (unchanged_insert r p x reads tree names others clear d sound)

  -- where no update point is at or below a node that the read selects, no copy is made below such a node
  beneath_inserted : (Touches r (insert p x) → ⊥) → (d : Doc) → Sound d → (v : ℕ) → Selects r d v → (w : ℕ)
      → PresentBelow (inserted p x d) v w ↔ PresentBelow d v w
  beneath_inserted clear d sound v s w = (before, remains)
    where
      e : Doc
      e = inserted p x d

      kept : Kept d e
      kept = inserted_kept p x d tree sound

      old_node : w < d.used → PresentBelow e v w → PresentBelow d v w
      old_node h b = record { below = (kept_below sound kept h).1 b.below; there = sym (kept_present kept w h) ∙ b.there }

      remains : PresentBelow d v w → PresentBelow e v w
      remains b =
          let h : w < d.used = present_used d w b.there in
          record { below = (kept_below sound kept h).0 b.below; there = kept_present kept w h ∙ b.there }

      before : PresentBelow e v w → PresentBelow d v w
      before b =
          inserted_below p x d tree sound (selected_used r d v ((selecting reads sound v).1 s)) (present_used e w b.there) b.below
          (λ h. old_node h b)
          (λ q point under.
          by_selected p d q point (λ there here.
          absurd (clear (touches_at r (insert p x) reads update names others (up d.rows q) here (hit_under reads sound s under (present_used d q there))))))

  -- so without a deep conflict it leaves what lies below them, whether it has room or not
  pub beneath_insert : (Deep r (insert p x) → ⊥) → (d : Doc) → Sound d → SameBelow r (stored p x d) d
  beneath_insert clear d sound = record { nodes = same.nodes; below = λ v s. below v ((same.nodes v).0 s) }
    where
      same : SameNodes r (stored p x d) d
      same = nodes_insert (λ c. clear (inl c)) d sound

      below : (v : ℕ) → Selects r d v → (w : ℕ) → PresentBelow (stored p x d) v w ↔ PresentBelow d v w
      below v s w =
          stored_cases (λ e. PresentBelow e v w ↔ PresentBelow d v w) p x d
          (λ room. beneath_inserted (λ t. clear (inr t)) d sound v s w)
          Iff.rfl
