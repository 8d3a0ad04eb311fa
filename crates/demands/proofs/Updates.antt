-- By embeddings: a delete removes exactly what its pattern covers, and deletes one after another what one of their patterns does; an insert puts a copy
-- under exactly the nodes that its pattern selects, and gives its nodes the next identities.
use Prim.Native.Nat.{ℕ, ◌+◌, ◌*◌, ◌<◌, ◌≤◌}
use mathlib.Core.Path.{◌≡◌, refl, sym, ◌∙◌}
use mathlib.Core.Bool.{Bool, true, false, ◌&&◌, cond}
use mathlib.Core.List.{List}
use mathlib.Core.Logic.{◌↔◌}
use native.Mathlib.Decide.{dec_lt}
use native.Mathlib.Nat.{add-zero}
use native.Mathlib.Omega.{arith}
use lib.ListN.{get_or}
use Rattle.tables.specs.Words.{nodes}
use Rattle.tables.specs.Patterns.{Pattern}
use Rattle.tables.specs.Documents.{Doc, bare, mark, present, Sound}
use Rattle.selection.specs.Lists.{count}
use Rattle.selection.specs.Ways.{up, selected}
use Rattle.selection.specs.Operations.{hits, struck, deleted, points, copies, inserted}
use Rattle.selection.proofs.Runs.{both}
use Rattle.selection.proofs.Up.{way_is}
use Rattle.selection.proofs.Lists.{rising_rises}
use Rattle.selection.proofs.Presence.{present_used}
use Rattle.selection.proofs.Selecting.{selecting}
use Rattle.selection.proofs.Hitting.{Hit, hit_hits, hits_hit}
use Rattle.selection.proofs.Deleting.{deleted_rows, deleted_used, deleted-mark, deleted-behind}
use Rattle.selection.proofs.Grafting.{copied_below}
use Rattle.selection.proofs.Inserting.{copies-count, point_selected, selected-number, selected_point, inserted_used, inserted_word_behind, inserted-mark-behind, inserted_kept, inserted_copy}
use Rattle.doc_updates.proofs.Accepted.{delete_pattern}
use Rattle.identities.specs.Documents.{Document}
use Rattle.identities.specs.Updates.{inserted_in}
use Rattle.identities.proofs.Updates.{inserted_tables, inserted-next, old_identity, copy_identity, identity-behind}
use Rattle.order_calls.proofs.Accepting.{AcceptedDocument}
use Rattle.order_deletes.specs.Deletes.{with_marks}
use Rattle.order_deletes.specs.Together.{any_hits, together}
use Rattle.order_deletes.proofs.Together.{together-mark, together-behind, any_hit, hit_any}
use Rattle.order_deletes.proofs.Calls.{own_check_lem}
use Rattle.demands.specs.Updates.{Covered, RemovedAt, DeletedBy, CoveredByOne, AllDeletedBy, InsertedBy, NamedBy}

-- marks that are 1 where a test holds of a present node, and else as before: what the test means is removed
removed_at : (Gone : ℕ → Type 0) (gone : ℕ → Bool) {d e : Doc} → e.rows ≡ d.rows → e.used ≡ d.used →
    ((v : ℕ) → v < d.used → mark e v ≡ cond (present d v && gone v) 1 (mark d v)) → ((v : ℕ) → d.used ≤ v → mark e v ≡ mark d v) →
    ((v : ℕ) → present d v ≡ true → (gone v ≡ true) ↔ Gone v) → RemovedAt Gone d e
removed_at Gone gone {d} {e} rows used marks behind means = record {
  rows = rows;
  used = used;
  removed = λ v here g. marks v (present_used d v here) ∙ rw (here, (means v here).1 g);
  others = λ v free. others v free (dec_lt v d.used);
}
  where
    same : (m : ℕ) (b : Bool) → (b ≡ true → ⊥) → cond b 1 m ≡ m
    same m true f = absurd (f refl)
    same m false f = refl

    others : (v : ℕ) → (present d v ≡ true → Gone v → ⊥) → Dec (v < d.used) → mark e v ≡ mark d v
    others v free (no h) = behind v (omega arith)
    others v free (yes h) =
        marks v h
        ∙ same (mark d v) (present d v && gone v) (λ q. both (present d v) (gone v) q (λ here g. free here ((means v here).0 g)))

module _ (p : List ℕ) (d : Doc) (pattern : Pattern p) (sound : Sound d) where
  covered_hits : (v : ℕ) → v < d.used → Covered p d v → hits p (up d.rows v) ≡ true
  covered_hits v h c =
      hit_hits p d sound h (record { place = c.point; above = c.under; chosen = (selecting pattern sound c.point).1 c.selects })

  hits_covered : (v : ℕ) → present d v ≡ true → hits p (up d.rows v) ≡ true → Covered p d v
  hits_covered v here e =
      let h : v < d.used = present_used d v here in
      let hit : Hit p d v = hits_hit p d sound h (way_is sound v h) here e in
      record { point = hit.place; selects = (selecting pattern sound hit.place).0 hit.chosen; under = hit.above }

  pub deleted_by : DeletedBy p d (deleted p d)
  unfolding struck
  deleted_by =
      removed_at (Covered p d) (λ v. hits p (up d.rows v)) (deleted_rows p d) (deleted_used p d) (deleted-mark p d) (deleted-behind p d)
      (λ v here. (hits_covered v here, covered_hits v (present_used d v here)))

-- deletes at all of these remove what one of them covers, of those that are accepted
module _ (ps : List (List ℕ)) (d : Document) (accepted : AcceptedDocument d) where
  covered_any : (v : ℕ) → v < d.tables.used → CoveredByOne ps d v → any_hits ps (up d.tables.rows v) ≡ true
  covered_any v h c =
      hit_any (up d.tables.rows v) c.at (sym (own_check_lem c.pattern accepted) ∙ c.accepted)
      (covered_hits c.pattern d.tables (delete_pattern c.pattern d c.accepted) accepted.tables.sound v h c.covers)

  any_covered : (v : ℕ) → present d.tables v ≡ true → any_hits ps (up d.tables.rows v) ≡ true → CoveredByOne ps d v
  any_covered v here e =
      let by = any_hit ps (up d.tables.rows v) e in
      let fine = own_check_lem by.pattern accepted ∙ by.fine in
      record {
        place = by.place;
        pattern = by.pattern;
        at = by.at;
        accepted = fine;
        covers = hits_covered by.pattern d.tables (delete_pattern by.pattern d fine) accepted.tables.sound v here by.hit;
      }

  pub all_deleted_by : AllDeletedBy ps d (with_marks d (together ps d.tables)).tables
  all_deleted_by =
      removed_at (CoveredByOne ps d) (λ v. any_hits ps (up d.tables.rows v)) refl refl (together-mark ps d.tables) (together-behind ps d.tables)
      (λ v here. (any_covered v here, covered_any v (present_used d.tables v here)))

-- the points of an insert: each is selected, each selected node is one of them, and they rise
module _ (p x : List ℕ) (d : Doc) (pattern : Pattern p) (tree : Sound (bare x)) (sound : Sound d) where
  points_rise : (i j : ℕ) → i < j → j < copies p d → get_or (points p d) i 0 < get_or (points p d) j 0
  unfolding points
  points_rise i j h l = rising_rises (selected p d) d.used i j h (rw (copies-count p d) at l)

  pub inserted_by : InsertedBy p x d (inserted p x d) (copies p d)
  unfolding copies
  inserted_by =
      let kept = inserted_kept p x d tree sound in
      let copy = inserted_copy p x d tree sound in
      record {
        points = points p d;
        copies = refl;
        rising = points_rise;
        only = λ c h. (selecting pattern sound (get_or (points p d) c 0)).0 (point_selected p d c h);
        every = λ v s.
            let e : selected p d v ≡ true = (selecting pattern sound v).1 s in
            (count (selected p d) v, selected-number p d v e, selected_point p d v e);
        used = inserted_used p x d;
        old_parents = kept.parents;
        old_tags = kept.tags;
        old_marks = kept.marks;
        roots = λ c h. rw add-zero at ((copy c h).parents 0 (present_used (bare x) 0 tree.root));
        parents = λ c k h some l. (copy c h).parents k l ∙ copied_below x (get_or (points p d) c 0) (d.used + c * nodes x) k some;
        tags = λ c k h l. (copy c h).tags k l;
        marks = λ c k h l. (copy c h).marks k l;
        words_behind = λ i h. inserted_word_behind p x d i (rw (inserted_used p x d) at h);
        marks_behind = λ v h. inserted-mark-behind p x d v (rw (inserted_used p x d) at h);
      }

-- the identities after an insert
pub named_by : (p x : List ℕ) (d : Document) → NamedBy x d (inserted_in p x d) (copies p d.tables)
named_by p x d = record {
  old = old_identity p x d;
  new = copy_identity p x d;
  behind = λ v h. identity-behind p x d v (rw (inserted_tables p x d, inserted_used p x d.tables) at h);
  next = inserted-next p x d;
}
