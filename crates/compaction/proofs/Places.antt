-- The new numbers of the nodes that stay: they keep the order, leave none out, and are as many as stay.
use Prim.Native.Nat.{ℕ, zero, suc, ◌+◌, ◌*◌, ◌<◌, ◌≤◌}
use mathlib.Core.Path.{◌≡◌, refl, ◌∙◌}
use mathlib.Core.Bool.{Bool, true, false, not, cond}
use mathlib.Core.List.{List, [], ◌∷◌, ◌++◌}
use native.Mathlib.Decide.{dec_lt}
use native.Mathlib.Nat.{not-suc-le-zero}
use native.Mathlib.Numerals.{add-one}
use native.Mathlib.Omega.{arith}
use lib.ListN.{length, get_or, length-append, get_or-append}
use lib.Seq.{get_or_at, get_or-append-add}
use Rattle.tables.specs.Words.{parent, tag}
use Rattle.tables.specs.Documents.{Doc, present}
use Rattle.selection.specs.Lists.{count, rising}
use Rattle.selection.proofs.Lists.{below_suc, count_most, count_mono, count_holds, Listed, rising-of}
use Rattle.selection.proofs.Presence.{present_used}
use Rattle.identities.specs.Documents.{Document, identity}
use Rattle.identities.specs.Compaction.{place, staying, dropped, staying_words, staying_ids}

-- numbers at which a test holds, and those at which it does not
count_both : (f : ℕ → Bool) (n : ℕ) → count f n + count (λ v. not (f v)) n ≡ n
unfolding count
count_both f zero = refl
count_both f (suc n) = go (f n) (count f n) (count (λ v. not (f v)) n) (count_both f n)
  where
    go : (b : Bool) (k j : ℕ) → k + j ≡ n → cond b (suc k) k + cond (not b) (suc j) j ≡ suc n
    go true k j e = omega arith
    go false k j e = omega arith

module _ (d : Doc) where
  -- every used node stays or is dropped
  pub staying-dropped : staying d + dropped d ≡ d.used
  unfolding staying dropped place
  staying-dropped = count_both (present d) d.used

  pub staying_most : staying d ≤ d.used
  unfolding staying place
  staying_most = count_most (present d) d.used

  pub place_start : place d 0 ≡ 0
  unfolding place count
  place_start = refl

  pub place_most : (v : ℕ) → place d v ≤ v
  unfolding place
  place_most = count_most (present d)

  -- a present node takes a number, another none
  pub place_taken : (v : ℕ) → present d v ≡ true → place d (suc v) ≡ suc (place d v)
  unfolding place count
  place_taken v e = rw e refl

  pub place-passed : (v : ℕ) → present d v ≡ false → place d (suc v) ≡ place d v
  unfolding place count
  place-passed v e = rw e refl

  -- numbers keep their order, strictly behind a present node
  pub place_mono : (u v : ℕ) → u ≤ v → place d u ≤ place d v
  unfolding place
  place_mono = count_mono (present d)

  pub place_rises : (u v : ℕ) → u < v → present d u ≡ true → place d u < place d v
  unfolding place
  place_rises u v h e = count_holds (present d) u v h e

  -- a present node's new number is a used one
  pub place_below : (v : ℕ) → present d v ≡ true → place d v < staying d
  unfolding staying
  place_below v e = place_rises v d.used (present_used d v e) e

  -- and back: a smaller new number is that of a smaller node
  pub place-back : (u v : ℕ) → place d u < place d v → u < v
  place-back u v h = go (dec_lt u v)
    where
      go : Dec (u < v) → u < v
      go (yes l) = l
      go (no l) = absurd (omega (arith, place_mono v u (omega arith)))

  -- every used number of the result is that of a present node
  pub record Stays (m : ℕ) : Type 0 where
    pub node : ℕ
    pub here : present d node ≡ true
    pub number : place d node ≡ m

  pub place_all : (m : ℕ) → m < staying d → Stays m
  unfolding staying place
  place_all m h =
      let listed : Listed (present d) d.used m (get_or (rising (present d) d.used) m 0) = rising-of (present d) d.used m h in
      record { node = get_or (rising (present d) d.used) m 0; here = listed.holds; number = listed.place }

  -- what holds of every present node's new number holds of every used number of the result
  pub placed : (P : ℕ → Type 0) → ((v : ℕ) → present d v ≡ true → P (place d v)) → (m : ℕ) → m < staying d → P m
  placed P each m h =
      let s : Stays m = place_all m h in
      rw s.number at (each s.node s.here)

  -- the words of the first n nodes: those of a present node come behind, those of another are left out
  pub words_taken : (v : ℕ) → present d v ≡ true → staying_words d (suc v) ≡ staying_words d v ++ (place d (parent d.rows v) ∷ tag d.rows v ∷ [])
  unfolding staying_words
  words_taken v e = rw e refl

  pub words_passed : (v : ℕ) → present d v ≡ false → staying_words d (suc v) ≡ staying_words d v
  unfolding staying_words
  words_passed v e = rw e refl

  pub words_length : (n : ℕ) → length (staying_words d n) ≡ 2 * place d n
  unfolding staying_words place count
  words_length zero = refl
  words_length (suc n) = go (present d n) (staying_words d n) (count (present d) n) (words_length n)
    where
      go : (b : Bool) (ws : List ℕ) (k : ℕ) → length ws ≡ 2 * k → length (cond b (ws ++ (place d (parent d.rows n) ∷ tag d.rows n ∷ [])) ws) ≡ 2 * cond b (suc k) k
      go true ws k e = rw (length-append, e) (omega arith)
      go false ws k e = e

  -- the two words of a present node stand at its new number
  pub words_at : (n v : ℕ) → v < n → present d v ≡ true → (i : ℕ) → i < 2 →
      get_or (staying_words d n) (2 * place d v + i) 0 ≡ get_or (place d (parent d.rows v) ∷ tag d.rows v ∷ []) i 0
  words_at zero v h e i two = absurd (not-suc-le-zero h)
  words_at (suc n) v h e i two = below_suc v n h (λ l. before l (words_at n v l e i two) (present d n) refl) here
    where
      before : {word : ℕ} → v < n → get_or (staying_words d n) (2 * place d v + i) 0 ≡ word → (b : Bool) → present d n ≡ b → get_or (staying_words d (suc n)) (2 * place d v + i) 0 ≡ word
      before l old true q =
          rw (words_taken n q)
          (get_or-append (staying_words d n) _ 0 (2 * place d v + i) (rw (words_length n) (omega (arith, place_rises v n l e))) ∙ old)
      before l old false q = rw (words_passed n q) old

      here : v ≡ n → get_or (staying_words d (suc n)) (2 * place d v + i) 0 ≡ get_or (place d (parent d.rows v) ∷ tag d.rows v ∷ []) i 0
      here q =
          rw (← q, words_taken v e)
          (rw (words_length v) at (get_or-append-add (staying_words d v) (place d (parent d.rows v) ∷ tag d.rows v ∷ []) i 0))

-- and so with identities
module _ (d : Document) where
  pub ids_taken : (v : ℕ) → present d.tables v ≡ true → staying_ids d (suc v) ≡ staying_ids d v ++ (identity d v ∷ [])
  unfolding staying_ids
  ids_taken v e = rw e refl

  pub ids_passed : (v : ℕ) → present d.tables v ≡ false → staying_ids d (suc v) ≡ staying_ids d v
  unfolding staying_ids
  ids_passed v e = rw e refl

  pub ids_length : (n : ℕ) → length (staying_ids d n) ≡ place d.tables n
  unfolding staying_ids place count
  ids_length zero = refl
  ids_length (suc n) = go (present d.tables n) (staying_ids d n) (count (present d.tables) n) (ids_length n)
    where
      go : (b : Bool) (is : List ℕ) (k : ℕ) → length is ≡ k → length (cond b (is ++ (identity d n ∷ [])) is) ≡ cond b (suc k) k
      go true is k e = rw (length-append, e) (add-one k)
      go false is k e = e

  pub ids_at : (n v : ℕ) → v < n → present d.tables v ≡ true → get_or (staying_ids d n) (place d.tables v) 0 ≡ identity d v
  ids_at zero v h e = absurd (not-suc-le-zero h)
  ids_at (suc n) v h e = below_suc v n h (λ l. before l (ids_at n v l e) (present d.tables n) refl) here
    where
      before : v < n → get_or (staying_ids d n) (place d.tables v) 0 ≡ identity d v → (b : Bool) → present d.tables n ≡ b → get_or (staying_ids d (suc n)) (place d.tables v) 0 ≡ identity d v
      before l old true q =
          rw (ids_taken n q)
          (get_or-append (staying_ids d n) _ 0 (place d.tables v) (rw (ids_length n) (place_rises d.tables v n l e)) ∙ old)
      before l old false q = rw (ids_passed n q) old

      here : v ≡ n → get_or (staying_ids d (suc n)) (place d.tables v) 0 ≡ identity d v
      here q = rw (← q, ids_taken v e) (get_or_at (staying_ids d v) (identity d v) [] 0 (place d.tables v) (ids_length v))
