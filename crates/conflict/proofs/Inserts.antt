-- A read and an insert conflict exactly if the read, on some way that the update selects, comes to a state from which it enters the
-- inserted tree; the shortest such way decides it.
use Prim.Native.Nat.{ℕ, pred, ◌+◌, ◌*◌, ◌<◌, ◌≤◌}
use native.Mathlib.Nat.{suc-pred-eq_of_pos}
use native.Mathlib.Omega.{arith}
use mathlib.Core.Path.{◌≡◌, refl, sym, ◌∙◌, ap}
use mathlib.Core.Bool.{true, false, false≢true}
use mathlib.Core.List.{List, ◌++◌}
use lib.ListN.{length, get_or}
use Rattle.tables.specs.Limits.{word_limit}
use Rattle.tables.specs.Words.{steps, nodes, label}
use Rattle.tables.specs.Patterns.{Pattern}
use Rattle.tables.specs.Documents.{Doc, bare, Sound}
use Rattle.selection.specs.Lists.{count}
use Rattle.selection.specs.Ways.{up, run, last, sel, selected}
use Rattle.selection.specs.Operations.{points, copies, inserted, stored}
use Rattle.selection.proofs.Up.{some_up}
use Rattle.selection.proofs.Keeping.{kept_selected, copy_selected}
use Rattle.selection.proofs.Inserting.{Placed, old, copied, inserted_placed, inserted_sound, inserted_kept, inserted_copy, point_selected, selected_used, selected-number, selected_point, stored_cases}
use Rattle.conflict.specs.Conflict.{insert, Differs, Witness, Conflict, Smallest}
use Rattle.conflict.specs.Crossing.{goes_further, enters, insert_way, chain}
use Rattle.conflict.proofs.Steps.{Within}
use Rattle.conflict.proofs.Meeting.{Labels}
use Rattle.conflict.proofs.Crossing.{Crossing, run_some, goes-on_join, goes-on_split, goes-on-before}
use Rattle.conflict.proofs.Chains.{chain_sound, chain-last, chain-selected-last}
use Rattle.conflict.proofs.Depth.{by_selected, Reached}
use Rattle.conflict.proofs.Smallest.{Decides, by_differs, differs_at, differs_conflict, smallest, unchanged}
use Rattle.selection.proofs.Somewhere.{Somewhere, of-somewhere, to_somewhere}
use Rattle.conflict.proofs.Entering.{Entry, entering_entry, entering-within, entering_most, entering_labels}

module _ (r p x : List ℕ) where
  -- insert_way is the shortest way that enters: one where it is not empty, and no longer than any other
  pub insert_way_entry : 0 < length (insert_way r p x) → Entry r p x (last r) (insert_way r p x)
  unfolding insert_way
  insert_way_entry = entering_entry r p x (last r)

  pub insert_way-within : (w : List ℕ) → Entry r p x (last r) w → Within (length (insert_way r p x)) (length w)
  unfolding insert_way
  insert_way-within = entering-within r p x (last r)

  -- it has at least two labels fewer than both patterns have steps together
  pub insert_way_most : 0 < steps r → 0 < steps p → length (insert_way r p x) + 2 ≤ steps r + steps p
  unfolding insert_way
  insert_way_most h k = omega (arith, entering_most r p x (last r), suc-pred-eq_of_pos h, suc-pred-eq_of_pos k)

  -- each one that a node may have
  pub insert_way_labels : ((k : ℕ) → label r k < word_limit) → ((k : ℕ) → label p k < word_limit) → Labels (insert_way r p x)
  unfolding insert_way
  insert_way_labels names others = entering_labels r p x names others (last r)

-- an update point, and a node of the inserted tree that the read selects in the copy under it
pub record Gain (r p x : List ℕ) (d : Doc) : Type 0 where
  pub point : ℕ
  pub node : ℕ
  pub chosen : selected p d point ≡ true
  pub inside : node < nodes x
  pub reads : sel r (up x node ++ up d.rows point) ≡ true

module _ (r p x : List ℕ) (pattern : Pattern r) (tree : Sound (bare x)) where
  -- the sets differ exactly where there is one: the copied node is gained, and no node is lost
  pub gain_of : {d : Doc} → Sound d → Differs r (insert p x) d → Gain r p x d
  gain_of {d} sound differs =
      by_differs pattern sound (inserted_sound p x d tree sound) differs
      (λ v here gone. absurd (false≢true (sym gone ∙ kept v (selected_used r d v here) ∙ here)))
      (λ v gone here. placed v gone here (inserted_placed p x d v (selected_used r (inserted p x d) v here)))
    where
      kept : (v : ℕ) → v < d.used → selected r (inserted p x d) v ≡ selected r d v
      kept v h = kept_selected (inserted_kept p x d tree sound) r v h

      placed : (v : ℕ) → selected r d v ≡ false → selected r (inserted p x d) v ≡ true → Placed x d.used (copies p d) v → Gain r p x d
      placed v gone here (old h) = absurd (false≢true (sym gone ∙ sym (kept v h) ∙ here))
      placed v gone here (copied c k h m e) = record {
        point = get_or (points p d) c 0;
        node = k;
        chosen = point_selected p d c h;
        inside = m;
        reads = sym (copy_selected (inserted_copy p x d tree sound c h) r k m) ∙ (rw e at here);
      }

  pub of_gain : {d : Doc} → Sound d → Gain r p x d → Differs r (insert p x) d
  of_gain {d} sound g =
      let q : ℕ = g.point in
      let c : ℕ = count (selected p d) q in
      let v : ℕ = d.used + c * nodes x + g.node in
      let way : up d.rows (get_or (points p d) c 0) ≡ up d.rows q = ap (up d.rows) (selected_point p d q g.chosen) in
      let here : selected r (inserted p x d) v ≡ true =
      copy_selected (inserted_copy p x d tree sound c (selected-number p d q g.chosen)) r g.node g.inside ∙ rw way g.reads in
      differs_at pattern sound (inserted_sound p x d tree sound) v (λ e. omega (arith, selected_used r d v (sym e ∙ here)))

  -- where r selects at a node k of x hung under an update point of way w, it enters there
  entry_of : (w : List ℕ) (k : ℕ) → k < nodes x → sel p w ≡ true → sel r (up x k ++ w) ≡ true → Entry r p x (last r) w
  unfolding enters
  entry_of w k h updates reads =
      let c : Crossing (goes_further r (up x k)) (λ i. run r false i w) = goes-on_split r (up x k) w (run_some p false (last p) w updates) reads in
      record {
        state = c.state;
        below = goes-on-before r (up x k) c.state (some_up x k) c.left;
        goes_on = to_somewhere (λ n. goes_further r (up x n) c.state) (nodes x) k h c.left;
        common = record { reads = c.rest; updates = updates };
      }

  -- so where the sets differ, insert_way has no more labels than the way of that update point
  pub insert_reached : (d : Doc) → Sound d → Differs r (insert p x) d → Reached (length (insert_way r p x)) d
  insert_reached d sound differs =
      let g : Gain r p x d = gain_of sound differs in
      let w : List ℕ = up d.rows g.point in
      by_selected p d g.point g.chosen (λ there updates.
      record { at = g.point; here = there; within = insert_way-within r p x w (entry_of w g.node g.inside updates g.reads) })

  module _ (names : (k : ℕ) → label r k < word_limit) (others : (k : ℕ) → label p k < word_limit) where
    -- the chain of the way gains a node under its last
    pub insert_witness : 0 < length (insert_way r p x) → Witness r (insert p x) (chain (insert_way r p x))
    unfolding enters
    insert_witness h =
        let w : List ℕ = insert_way r p x in
        let entry : Entry r p x (last r) w = insert_way_entry r p x h in
        let s : Somewhere (λ k. goes_further r (up x k) entry.state) (nodes x) = of-somewhere (λ k. goes_further r (up x k) entry.state) (nodes x) entry.goes_on in
        let sound : Sound (bare (chain w)) = chain_sound w (insert_way_labels r p x names others) h in
        let reads : sel r (up x s.at ++ w) ≡ true = goes-on_join r (up x s.at) w (record { state = entry.state; left = s.holds; rest = entry.common.reads }) in
        record {
          sound = sound;
          differs =
              of_gain sound
              (record {
                point = pred (length w);
                node = s.at;
                chosen = chain-selected-last p w h ∙ entry.common.updates;
                inside = s.below;
                reads = rw (chain-last w h) reads;
              });
        }

    -- so the way decides
    pub decides_insert : Decides r (insert p x) (insert_way r p x)
    decides_insert = record { witness = insert_witness; reached = insert_reached }

    -- the way's labels are as many as a smallest witness has nodes
    pub smallest_insert : Smallest r (insert p x) (length (insert_way r p x))
    smallest_insert = smallest decides_insert

    -- a difference on any sound document is a conflict
    pub differs_insert : {d : Doc} → Sound d → Differs r (insert p x) d → Conflict r (insert p x)
    differs_insert = differs_conflict decides_insert

    -- so is one that an insert into a document makes, which changes nothing where there is no room
    pub differs_stored : (d : Doc) → Sound d → (v : ℕ) → (selected r (stored p x d) v ≡ selected r d v → ⊥) → Conflict r (insert p x)
    differs_stored d sound v =
        stored_cases (λ e. (selected r e v ≡ selected r d v → ⊥) → Conflict r (insert p x)) p x d
        (λ room apart. differs_insert sound (differs_at pattern sound (inserted_sound p x d tree sound) v apart))
        (λ apart. absurd (apart refl))

    -- where there is no conflict, no sound document's selection changes, whether the insert has room or not
    pub unchanged_insert : (Conflict r (insert p x) → ⊥) → (d : Doc) → Sound d → (v : ℕ) → selected r (stored p x d) v ≡ selected r d v
    unchanged_insert clear d sound v =
        stored_cases (λ e. selected r e v ≡ selected r d v) p x d
        (λ room. unchanged decides_insert clear pattern sound (inserted_sound p x d tree sound) v)
        refl
