-- Closing up in rising number: the nodes passed stand at their new numbers, and all behind them is as it was.
use Prim.Native.Nat.{ℕ, zero, suc, ◌+◌, ◌*◌, ◌<◌, ◌≤◌}
use mathlib.Core.Path.{◌≡◌, refl, sym, ◌∙◌}
use mathlib.Core.Bool.{Bool, true, false}
use mathlib.Core.List.{List, ◌++◌}
use native.Mathlib.Numerals.{add-one}
use native.Mathlib.Omega.{arith}
use lib.Dec.{eqb}
use lib.ListN.{length, get_or, drop, set, length-set}
use borrow.Author.Tests.{lt-ltb, ne_eqb}
use Rattle.tables.specs.Words.{parent, tag}
use Rattle.tables.specs.Documents.{Doc, mark, present}
use Rattle.selection.specs.Lists.{tab}
use Rattle.selection.proofs.Lists.{get_or-behind, length-behind, length-tab}
use Rattle.selection.proofs.Filling.{set_next, set_two, row_start, row_more, row_new, row_long}
use Rattle.identities.specs.Documents.{Document, identity}
use Rattle.identities.specs.Compaction.{place, staying, staying_words, staying_ids, closed_up, compacted}
use Rattle.compaction.proofs.Places.{place_start, place_most, place_taken, place-passed, words_taken, words_passed, words_length, ids_taken, ids_passed, ids_length}
use Rattle.doc_compact.specs.Closing.{Movable, Moved, Closable, Closed, with}

-- the branches of the code are those of the definition
module _ (rows marks ids places : List ℕ) (v m : ℕ) where
  pub moved_none : (get_or marks v 0 ≡ 0 → ⊥) → Moved places v m rows marks ids rows marks ids m
  moved_none h = record {
    rows = rw (ne_eqb (get_or marks v 0) 0 h);
    marks = rw (ne_eqb (get_or marks v 0) 0 h);
    ids = rw (ne_eqb (get_or marks v 0) 0 h);
    number = rw (ne_eqb (get_or marks v 0) 0 h);
  }

  pub moved_there : get_or marks v 0 ≡ 0 → {u : ℕ} → u ≡ parent rows v →
      Moved places v m rows marks ids (set (set rows (2 * m) (get_or places u 0)) (2 * m + 1) (tag rows v)) (set marks m 0) (set ids m (get_or ids v 0)) (m + 1)
  moved_there h e = record { rows = rw (h, e); marks = rw h; ids = rw h; number = rw h }

-- closed up to v: the rows, the new numbers of the nodes passed, and the next new number
pub record ClosedTo (d : Document) (old : List ℕ) (v : ℕ) (rows marks ids places : List ℕ) (m : ℕ) : Type 0 where
  pub words : rows ≡ staying_words d.tables v ++ drop (2 * place d.tables v) d.tables.rows
  pub marked : marks ≡ tab (λ _. 0) (place d.tables v) ++ drop (place d.tables v) d.tables.marks
  pub named : ids ≡ staying_ids d v ++ drop (place d.tables v) d.ids
  pub numbers : places ≡ tab (place d.tables) v ++ drop v old
  pub number : m ≡ place d.tables v

pub close_start : (d : Document) (old : List ℕ) → ClosedTo d old 0 d.tables.rows d.tables.marks d.ids old 0
unfolding staying_words staying_ids tab
close_start d old = record {
  words = rw (place_start d.tables) refl;
  marked = rw (place_start d.tables) refl;
  named = rw (place_start d.tables) refl;
  numbers = row_start (place d.tables) old;
  number = sym (place_start d.tables);
}

-- the lengths stay, and no new number is greater than the node's own
module _ {d : Document} {old : List ℕ} {v : ℕ} {rows marks ids places : List ℕ} {m : ℕ} where
  pub number_most : ClosedTo d old v rows marks ids places m → m ≤ v
  number_most done = rw done.number (place_most d.tables v)

  pub rows_long : Closable d.tables d.ids → v ≤ d.tables.used → ClosedTo d old v rows marks ids places m → length rows ≡ length d.tables.rows
  rows_long can h done =
      rw (done.words, length-behind (staying_words d.tables v) d.tables.rows (2 * place d.tables v) (words_length d.tables v))
      (omega (arith, place_most d.tables v, can.sound.room))

  pub marks_long : Closable d.tables d.ids → v ≤ d.tables.used → ClosedTo d old v rows marks ids places m → length marks ≡ length d.tables.marks
  marks_long can h done =
      rw (done.marked, length-behind (tab (λ _. 0) (place d.tables v)) d.tables.marks (place d.tables v) (length-tab (λ _. 0) (place d.tables v)))
      (omega (arith, place_most d.tables v, can.marks))

  pub ids_long : Closable d.tables d.ids → v ≤ d.tables.used → ClosedTo d old v rows marks ids places m → length ids ≡ length d.ids
  ids_long can h done =
      rw (done.named, length-behind (staying_ids d v) d.ids (place d.tables v) (ids_length d v))
      (omega (arith, place_most d.tables v, can.identities))

  pub places_long : d.tables.used ≤ length old → v ≤ d.tables.used → ClosedTo d old v rows marks ids places m → length places ≡ length old
  places_long long h done = row_long (place d.tables) old v done.numbers (omega arith)

-- one turn of the pass: node v's new number is written, then the node goes there
module _ (d : Document) (can : Closable d.tables d.ids) (old : List ℕ) (long : d.tables.used ≤ length old) (v : ℕ) (h : v < d.tables.used) where
  less : (u : ℕ) → u < d.tables.used → parent d.tables.rows u < u + 1
  less zero l = omega (arith, can.sound.top)
  less (suc u) l = omega (arith, can.sound.parents (suc u) (omega arith) l)

  module _ {rows marks ids places : List ℕ} {m : ℕ} (done : ClosedTo d old v rows marks ids places m) where
    -- what the code reads of node v is as it was
    word_is : (i : ℕ) → 2 * v ≤ i → get_or rows i 0 ≡ get_or d.tables.rows i 0
    word_is i l =
        rw done.words
        (get_or-behind (staying_words d.tables v) d.tables.rows (2 * place d.tables v) (words_length d.tables v) i (omega (arith, place_most d.tables v)))

    mark_is : get_or marks v 0 ≡ mark d.tables v
    mark_is =
        rw done.marked
        (get_or-behind (tab (λ _. 0) (place d.tables v)) d.tables.marks (place d.tables v) (length-tab (λ _. 0) (place d.tables v)) v (place_most d.tables v))

    identity_is : get_or ids v 0 ≡ identity d v
    identity_is = rw done.named (get_or-behind (staying_ids d v) d.ids (place d.tables v) (ids_length d v) v (place_most d.tables v))

    -- so it asks whether v is present
    asked : eqb (get_or marks v 0) 0 ≡ present d.tables v
    asked = rw (mark_is, lt-ltb v d.tables.used h) refl

    -- and may read and write where it does
    pub movable : (a : ℕ) → Movable rows marks ids (set places v a) v m
    movable a =
        let within : v ≤ d.tables.used = omega arith in
        record {
          least = number_most done;
          limit = omega (arith, can.limit);
          words = rw (rows_long can within done) (omega (arith, can.sound.room));
          mark = rw (marks_long can within done) (omega (arith, can.marks));
          identity = rw (ids_long can within done) (omega (arith, can.identities));
          above = rw (length-set, places_long long within done, word_is (2 * v) (omega arith)) (omega (arith, less v h));
        }

    -- the number written for v is its new one
    module _ {a : ℕ} (written : a ≡ m) where
      numbers_more : set places v a ≡ tab (place d.tables) (v + 1) ++ drop (v + 1) old
      numbers_more = row_more (place d.tables) old v done.numbers (omega arith) (written ∙ done.number)

      -- the parent was passed before, or is v itself
      above_is : get_or (set places v a) (parent rows v) 0 ≡ place d.tables (parent d.tables.rows v)
      above_is =
          rw (word_is (2 * v) (omega arith))
          (row_new (place d.tables) old (v + 1) numbers_more (parent d.tables.rows v) (less v h))

      module _ {rows₁ marks₁ ids₁ : List ℕ} {n : ℕ} (turn : Moved (set places v a) v m rows marks ids rows₁ marks₁ ids₁ n) where
        taken : present d.tables v ≡ true → ClosedTo d old (v + 1) rows₁ marks₁ ids₁ (set places v a) n
        unfolding tab
        taken e =
            let here : eqb (get_or marks v 0) 0 ≡ true = asked ∙ e in
            let p : ℕ = place d.tables v in
            let less : p ≤ v = place_most d.tables v in
            let on : place d.tables (v + 1) ≡ suc p = rw (add-one v) (place_taken d.tables v e) in
            let twice : 2 * suc p ≡ suc (suc (2 * p)) = omega arith in
            record {
              words = turn.rows ∙ rw (here, above_is, word_is (2 * v + 1) (omega arith), done.number, done.words, on, twice, add-one v, words_taken d.tables v e)
                  (set_two (staying_words d.tables v) d.tables.rows (2 * p) _ _ (words_length d.tables v) (omega (arith, can.sound.room)));
              marked = turn.marks ∙ rw (here, done.number, done.marked, on)
                  (set_next (tab (λ _. 0) p) d.tables.marks p 0 (length-tab (λ _. 0) p) (omega (arith, can.marks)));
              named = turn.ids ∙ rw (here, identity_is, done.number, done.named, on, add-one v, ids_taken d v e)
                  (set_next (staying_ids d v) d.ids p (identity d v) (ids_length d v) (omega (arith, can.identities)));
              numbers = numbers_more;
              number = turn.number ∙ rw (here, done.number, on) (add-one p);
            }

        passed : present d.tables v ≡ false → ClosedTo d old (v + 1) rows₁ marks₁ ids₁ (set places v a) n
        passed e =
            let gone : eqb (get_or marks v 0) 0 ≡ false = asked ∙ e in
            let on : place d.tables (v + 1) ≡ place d.tables v = rw (add-one v) (place-passed d.tables v e) in
            record {
              words = turn.rows ∙ rw (gone, on, add-one v, words_passed d.tables v e) done.words;
              marked = turn.marks ∙ rw (gone, on) done.marked;
              named = turn.ids ∙ rw (gone, on, add-one v, ids_passed d v e) done.named;
              numbers = numbers_more;
              number = turn.number ∙ rw (gone, on) done.number;
            }

        pub close_more : ClosedTo d old (v + 1) rows₁ marks₁ ids₁ (set places v a) n
        close_more = go (present d.tables v) refl
          where
            go : (b : Bool) → present d.tables v ≡ b → ClosedTo d old (v + 1) rows₁ marks₁ ids₁ (set places v a) n
            go true e = taken e
            go false e = passed e

-- a pass over all used nodes closes the document up
pub close_end : (d : Doc) (ids₀ old : List ℕ) {rows marks ids places : List ℕ} {m : ℕ} (v : ℕ) → v ≤ d.used → d.used ≤ v →
    ((next : ℕ) → ClosedTo (with d ids₀ next) old v rows marks ids places m) → Closed d ids₀ rows marks ids m
unfolding compacted closed_up staying
close_end d ids₀ old v h l done =
    let same : v ≡ d.used = omega arith in
    record {
      rows = λ next. rw same at (done next).words;
      marks = λ next. rw same at (done next).marked;
      ids = λ next. rw same at (done next).named;
      number = rw same at (done 0).number;
    }
