-- The list of changes: how long it is, and where which entry stands.
use Prim.Native.Nat.{ℕ, zero, suc, ◌+◌, ◌*◌, ◌<◌, ◌≤◌}
use mathlib.Core.Path.{◌≡◌, refl, sym, ◌∙◌}
use mathlib.Core.Bool.{Bool, true, false, cond, false≢true}
use mathlib.Core.List.{List, [], ◌∷◌, ◌++◌}
use mathlib.Core.Logic.{◌≢◌}
use native.Mathlib.Nat.{add-zero, not-suc-le-zero}
use native.Mathlib.Omega.{arith}
use lib.Dec.{eqb}
use lib.ListN.{length, get_or, length-append, get_or-append}
use lib.Seq.{get_or-append-add}
use borrow.Author.Tests.{eqb-true, eq-eqb, ne_eqb, not-true, not-false}
use Rattle.tables.specs.Documents.{Doc, mark}
use Rattle.selection.specs.Lists.{count, rising}
use Rattle.selection.proofs.Lists.{below_suc, count_most, count_holds, get_or-behind, length-behind, Listed, rising-of, rising_at, rising_rises}
use Rattle.mending.specs.Mending.{mended_mark, changed, changes, change_words, change_list}

module _ (d : Doc) where
  -- a mark is changed exactly if the mended one is another
  pub changed_other : (v : ℕ) → changed d v ≡ true → mark d v ≢ mended_mark d.rows d.marks v
  unfolding changed
  changed_other v e q = false≢true (sym (not-true (eqb (mark d v) (mended_mark d.rows d.marks v)) e) ∙ eq-eqb (mark d v) (mended_mark d.rows d.marks v) q)

  pub other_changed : (v : ℕ) → mark d v ≢ mended_mark d.rows d.marks v → changed d v ≡ true
  unfolding changed
  other_changed v q = rw (ne_eqb (mark d v) (mended_mark d.rows d.marks v) q) refl

  -- and unchanged exactly if it is the same
  pub same-changed : (v : ℕ) → mark d v ≡ mended_mark d.rows d.marks v → changed d v ≡ false
  unfolding changed
  same-changed v q = rw (eq-eqb (mark d v) (mended_mark d.rows d.marks v) q) refl

  pub changed-same : (v : ℕ) → changed d v ≡ false → mark d v ≡ mended_mark d.rows d.marks v
  unfolding changed
  changed-same v e = eqb-true (mark d v) (mended_mark d.rows d.marks v) (not-false (eqb (mark d v) (mended_mark d.rows d.marks v)) e)

  -- no more changes than used nodes
  pub changes_most : changes d ≤ d.used
  unfolding changes
  changes_most = count_most (changed d) d.used

  -- three words a change
  pub words_length : (n : ℕ) → length (change_words d n) ≡ 3 * count (changed d) n
  unfolding change_words count
  words_length zero = refl
  words_length (suc v) = go (changed d v) (change_words d v) _ _ _ (count (changed d) v) (words_length v)
    where
      go : (b : Bool) (ws : List ℕ) (x y z c : ℕ) → length ws ≡ 3 * c → length (cond b (ws ++ (x ∷ y ∷ z ∷ [])) ws) ≡ 3 * cond b (suc c) c
      go true ws x y z c e = rw (length-append, e) (omega arith)
      go false ws x y z c e = e

  -- the words of a change come behind
  words_taken : (v : ℕ) → changed d v ≡ true → change_words d (suc v) ≡ change_words d v ++ (v ∷ mark d v ∷ mended_mark d.rows d.marks v ∷ [])
  unfolding change_words
  words_taken v e = rw e refl

  words_passed : (v : ℕ) → changed d v ≡ false → change_words d (suc v) ≡ change_words d v
  unfolding change_words
  words_passed v e = rw e refl

  -- they stand behind those of the changes before
  pub words_at : (n v : ℕ) → v < n → changed d v ≡ true → (i : ℕ) → i < 3 →
      get_or (change_words d n) (3 * count (changed d) v + i) 0 ≡ get_or (v ∷ mark d v ∷ mended_mark d.rows d.marks v ∷ []) i 0
  words_at zero v h e i three = absurd (not-suc-le-zero h)
  words_at (suc n) v h e i three = below_suc v n h (λ l. before l (words_at n v l e i three) (changed d n) refl) here
    where
      before : {word : ℕ} → v < n → get_or (change_words d n) (3 * count (changed d) v + i) 0 ≡ word → (b : Bool) → changed d n ≡ b →
          get_or (change_words d (suc n)) (3 * count (changed d) v + i) 0 ≡ word
      before l old true q =
          rw (words_taken n q)
          (get_or-append (change_words d n) _ 0 (3 * count (changed d) v + i) (rw (words_length n) (omega (arith, count_holds (changed d) v n l e))) ∙ old)
      before l old false q = rw (words_passed n q) old

      here : v ≡ n → get_or (change_words d (suc n)) (3 * count (changed d) v + i) 0 ≡ get_or (v ∷ mark d v ∷ mended_mark d.rows d.marks v ∷ []) i 0
      here q =
          rw (← q, words_taken v e)
          (rw (words_length v) at (get_or-append-add (change_words d v) (v ∷ mark d v ∷ mended_mark d.rows d.marks v ∷ []) i 0))

  -- and every entry is that of a change: what holds of each change's holds of each
  pub each_entry : (P : ℕ → Type 0) (n : ℕ) → ((v : ℕ) → v < n → changed d v ≡ true → P (count (changed d) v)) → (k : ℕ) → k < count (changed d) n → P k
  each_entry P n each k h =
      let listed : Listed (changed d) n k (get_or (rising (changed d) n) k 0) = rising-of (changed d) n k h in
      rw listed.place at (each (get_or (rising (changed d) n) k 0) listed.below listed.holds)

  words : length (change_words d d.used) ≡ 3 * changes d
  unfolding changes
  words = words_length d.used

  module _ (list : List ℕ) where
    -- so in the list after a mending
    pub list_at : (v : ℕ) → v < d.used → changed d v ≡ true → (i : ℕ) → i < 3 →
        get_or (change_list d list) (3 * count (changed d) v + i) 0 ≡ get_or (v ∷ mark d v ∷ mended_mark d.rows d.marks v ∷ []) i 0
    unfolding change_list
    list_at v h e i three =
        get_or-append (change_words d d.used) _ 0 (3 * count (changed d) v + i)
        (rw (words_length d.used) (omega (arith, count_holds (changed d) v d.used h e)))
        ∙ words_at d.used v h e i three

    -- words behind the entries stay
    pub list_behind : (i : ℕ) → 3 * changes d ≤ i → get_or (change_list d list) i 0 ≡ get_or list i 0
    unfolding change_list
    list_behind = get_or-behind (change_words d d.used) list (3 * changes d) words

    -- a list with room for them stays as long as it is
    pub list_length : 3 * changes d ≤ length list → length (change_list d list) ≡ length list
    unfolding change_list
    list_length h = rw (length-behind (change_words d d.used) list (3 * changes d) words) (omega arith)

    -- entry by entry the nodes that change
    list_node : (k : ℕ) → k < changes d → get_or (change_list d list) (3 * k) 0 ≡ get_or (rising (changed d) d.used) k 0
    unfolding changes
    list_node =
        each_entry (λ k. get_or (change_list d list) (3 * k) 0 ≡ get_or (rising (changed d) d.used) k 0) d.used
        (λ v h e. (rw add-zero at (list_at v h e 0 (omega arith))) ∙ sym (rising_at (changed d) d.used v h e))

    -- they rise
    pub list_rises : (j k : ℕ) → j < k → k < changes d → get_or (change_list d list) (3 * j) 0 < get_or (change_list d list) (3 * k) 0
    unfolding changes
    list_rises j k h l = rw (list_node j (omega arith), list_node k l) (rising_rises (changed d) d.used j k h l)
