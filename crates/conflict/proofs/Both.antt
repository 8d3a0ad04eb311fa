-- The tests that decide what the deep verdict answers. For a delete: a way that both hit is one that the read selects and the delete hits, or one
-- that the delete selects and the read hits, or goes on from such a way; so the two are found at once.
use Prim.Native.Nat.{ℕ, ◌<◌}
use mathlib.Core.Path.{◌≡◌, sym, ◌∙◌}
use mathlib.Core.Bool.{true, false≢true, or-true}
use mathlib.Core.List.{List, [], ◌∷◌}
use mathlib.Core.Logic.{◌↔◌, inl, inr, ⊎_elim}
use lib.Dec.{ltb}
use lib.ListN.{length}
use borrow.Author.Tests.{lt-ltb, ltb-true}
use Rattle.tables.specs.Limits.{word_limit}
use Rattle.tables.specs.Words.{steps, label}
use Rattle.tables.specs.Patterns.{Pattern}
use Rattle.tables.specs.Documents.{bare, Sound}
use Rattle.selection.specs.Ways.{run, last, sel}
use Rattle.selection.specs.Operations.{hits}
use Rattle.selection.proofs.Runs.{either, run_below, hits-run}
use Rattle.conflict.specs.Conflict.{Update, delete, insert, Conflict, Touches, Deep}
use Rattle.conflict.specs.Meeting.{meeting_of, fewest_of}
use Rattle.conflict.specs.Crossing.{delete_way, insert_way, touches, delete_deep, insert_deep}
use Rattle.conflict.proofs.Meeting.{Common}
use Rattle.conflict.proofs.Shortest.{meeting_of_common, fewest_of-within}
use Rattle.conflict.proofs.Smallest.{Decides, differs_within}
use Rattle.conflict.proofs.Deletes.{Cut, delete_way_cut, delete_way-within, delete_witness, decides_delete}
use Rattle.conflict.proofs.Inserts.{insert_witness, decides_insert}
use Rattle.conflict.proofs.Deeps.{Touched, touched_touches, touches_touched, touching}

module _ (r p : List ℕ) where
  -- a way that both hit, with a motive: one of them selects at its end, or both hit the way above
  by_both : {X : Type 0} → ((w : List ℕ) → Cut r p w → X) → ((w : List ℕ) → Touched r p w → X) → (w : List ℕ) → hits r w ≡ true → hits p w ≡ true → X
  unfolding hits
  by_both cut touch [] read update = absurd (false≢true read)
  by_both cut touch (l ∷ w) read update =
      either (sel r (l ∷ w)) (hits r w) read
      (λ here. cut (l ∷ w) (record { reads = here; updates = sym (hits-run p (l ∷ w)) ∙ update }))
      (λ above.
      either (sel p (l ∷ w)) (hits p w) update
      (λ here. touch (l ∷ w) (record { reads = sym (hits-run r (l ∷ w)) ∙ read; updates = here }))
      (λ over. by_both cut touch w above over))

  -- the test for a delete holds exactly if there is one
  hit_deep : (w : List ℕ) → Common (run r true (last r)) (run p true (last p)) w → delete_deep r p ≡ true
  unfolding delete_deep
  hit_deep w both = lt-ltb 0 (fewest_of r true p true (last r) (last p)) (fewest_of-within r true p true (last r) (last p) w both).some

  deep_hit : delete_deep r p ≡ true → Common (run r true (last r)) (run p true (last p)) (meeting_of r true p true (last r) (last p))
  unfolding delete_deep
  deep_hit e = meeting_of_common r true p true (last r) (last p) (ltb-true 0 (fewest_of r true p true (last r) (last p)) e)

  -- what one selects it hits
  cut_deep : (w : List ℕ) → Cut r p w → delete_deep r p ≡ true
  cut_deep w cut = hit_deep w (record { reads = run_below r (last r) w cut.reads; updates = cut.updates })

  touched_deep : (w : List ℕ) → Touched r p w → delete_deep r p ≡ true
  touched_deep w both = hit_deep w (record { reads = both.reads; updates = run_below p (last p) w both.updates })

-- where there is a conflict, the way that decides it is not empty
conflict_some : {r : List ℕ} {u : Update} {way : List ℕ} → Decides r u way → Conflict r u → 0 < length way
conflict_some decides c = (differs_within decides c.shows.sound c.shows.differs).some

-- a delete
module _ (r p : List ℕ) (read : Pattern r) (update : Pattern p) (two : 1 < steps p) (names : (k : ℕ) → label r k < word_limit)
    (others : (k : ℕ) → label p k < word_limit) where
  -- where both hit a way, there is a conflict, or the delete touches what is read
  pub both_hit : (w : List ℕ) → hits r w ≡ true → hits p w ≡ true → Deep r (delete p)
  both_hit =
      by_both r p
      (λ w cut. inl (record { tree = _; shows = delete_witness r p read two names others (delete_way-within r p w cut).some }))
      (λ w both. inr ((touching r (delete p) read update names others).1 (touched_touches r p w both)))

  -- one or the other exactly if some way is one that both hit
  pub deep_delete_decided : Deep r (delete p) ↔ (delete_deep r p ≡ true)
  deep_delete_decided = (
    ⊎_elim
        (λ (c : Conflict r (delete p)). cut_deep r p (delete_way r p) (delete_way_cut r p (conflict_some (decides_delete r p read two names others) c)))
        (λ (t : Touches r (delete p)). touched_deep r p _ (touches_touched r p ((touching r (delete p) read update names others).0 t))),
    λ e.
        let w : List ℕ = meeting_of r true p true (last r) (last p) in
        both_hit w (hits-run r w ∙ (deep_hit r p e).reads) (hits-run p w ∙ (deep_hit r p e).updates),
  )

-- an insert
module _ (r p x : List ℕ) (read : Pattern r) (update : Pattern p) (tree : Sound (bare x)) (names : (k : ℕ) → label r k < word_limit)
    (others : (k : ℕ) → label p k < word_limit) where
  -- a conflict or a touch exactly if the test holds
  pub deep_insert_decided : Deep r (insert p x) ↔ (insert_deep r p x ≡ true)
  unfolding insert_deep
  deep_insert_decided = (
    ⊎_elim
        (λ (c : Conflict r (insert p x)). rw (lt-ltb 0 (length (insert_way r p x)) (conflict_some (decides_insert r p x read tree names others) c)))
        (λ (t : Touches r (insert p x)). rw ((touching r (insert p x) read update names others).0 t, or-true)),
    λ e.
        either (ltb 0 (length (insert_way r p x))) (touches r p) e
        (λ some. inl (record { tree = _; shows = insert_witness r p x read tree names others (ltb-true 0 (length (insert_way r p x)) some) }))
        (λ touch. inr ((touching r (insert p x) read update names others).1 touch)),
  )
