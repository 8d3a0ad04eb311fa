-- The two passes: after v turns the mended marks of the first v nodes stand in front, and their changes are counted or listed.
use Prim.Native.Nat.{ℕ, zero, suc, ◌+◌, ◌*◌, ◌-◌, ◌<◌, ◌≤◌}
use mathlib.Core.Path.{◌≡◌, refl, sym, ◌∙◌}
use mathlib.Core.Bool.{Bool, true, false, not, cond}
use mathlib.Core.List.{List, ◌++◌}
use native.Mathlib.Numerals.{add-one}
use native.Mathlib.Omega.{arith}
use lib.Dec.{eqb}
use lib.ListN.{length, get_or, drop}
use borrow.Author.Tests.{ne_eqb}
use Rattle.tables.specs.Words.{parent}
use Rattle.tables.specs.Documents.{Doc, mark}
use Rattle.tables.specs.Checks.{shape_check, Fine}
use Rattle.tables.proofs.Soundness.{shape_facts, shape_nodes, node_top}
use Rattle.selection.specs.Lists.{tab, count}
use Rattle.selection.proofs.Lists.{count_most, count_mono, count_holds, length-behind}
use Rattle.selection.proofs.Filling.{set_three, row_start, row_more, row_new, row_old, row_long}
use Rattle.mending.specs.Mending.{mended_mark, mended_marks, changed, changes, change_words, change_list}
use Rattle.mending.proofs.Marks.{mended-root, mended_node}
use Rattle.mending.proofs.Down.{falls}
use Rattle.mending.proofs.Listing.{other_changed, words_length}
use Rattle.doc_mend.specs.Writing.{following, Reached, Counted, Putting, Put}

-- the row so far
abbrev pub RowTo : Doc → List ℕ → ℕ → List ℕ → Type 0
RowTo d row₀ v row = row ≡ tab (mended_mark d.rows d.marks) v ++ drop v row₀

-- a row and the number of changes so far
pub record CountedTo (d : Doc) (row₀ : List ℕ) (v : ℕ) (row : List ℕ) (n : ℕ) : Type 0 where
  pub written : RowTo d row₀ v row
  pub number : n ≡ count (changed d) v

-- the marks, the list and its next place so far
pub record PutTo (d : Doc) (list₀ : List ℕ) (v : ℕ) (marks list : List ℕ) (at : ℕ) : Type 0 where
  pub written : RowTo d d.marks v marks
  pub listed : list ≡ change_words d v ++ drop (3 * count (changed d) v) list₀
  pub place : at ≡ 3 * count (changed d) v

module _ (d : Doc) (shape : shape_check d ≡ Fine) where
  -- the parent of a node has no greater number
  above : (v : ℕ) → v < d.used → parent d.rows v ≤ v
  above zero h = rw (node_top d.rows 5 d.used (shape_nodes d shape) h) (omega arith)
  above (suc v) h = omega (arith, falls d shape (suc v) (omega arith) h)

  -- the mended mark of v follows from the row so far
  pub follows : (row₀ : List ℕ) {row : List ℕ} (v : ℕ) → v < d.used → RowTo d row₀ v row → following d.rows (mark d v) row v ≡ mended_mark d.rows d.marks v
  follows row₀ zero h so = sym (mended-root d.rows d.marks)
  follows row₀ (suc v) h so =
      rw (ne_eqb (suc v) 0 (λ z. omega arith), row_new (mended_mark d.rows d.marks) row₀ (suc v) so (parent d.rows (suc v)) (falls d shape (suc v) (omega arith) h))
      (sym (mended_node d.rows d.marks d.used (falls d shape) (suc v) (omega arith) h))

  -- counting: one node more
  counted-on : (v : ℕ) {n k : ℕ} → n ≡ count (changed d) v → k ≡ cond (eqb (mark d v) (mended_mark d.rows d.marks v)) 0 1 → n + k ≡ count (changed d) (v + 1)
  unfolding count changed
  counted-on v {n} is turn = rw (is, turn, add-one v) (go (eqb (mark d v) (mended_mark d.rows d.marks v)) (count (changed d) v))
    where
      go : (b : Bool) (c : ℕ) → c + cond b 0 1 ≡ cond (not b) (suc c) c
      go true c = omega arith
      go false c = omega arith

  pub count_start : (row₀ : List ℕ) → CountedTo d row₀ 0 row₀ 0
  unfolding count
  count_start row₀ = record { written = row_start (mended_mark d.rows d.marks) row₀; number = refl }

  pub count_more : {row₀ row row' : List ℕ} {v n k : ℕ} → d.used ≤ length row₀ → v < d.used → CountedTo d row₀ v row n → Counted d.rows d.marks v row row' k →
      CountedTo d row₀ (v + 1) row' (n + k)
  count_more {row₀} {v = v} long h so turn =
      let is = follows row₀ v h so.written in
      record {
        written = turn.row ∙ row_more (mended_mark d.rows d.marks) row₀ v so.written (omega arith) is;
        number = counted-on v so.number (rw is at turn.number);
      }

  pub count_end : {row₀ row : List ℕ} {v n : ℕ} → v ≤ d.used → d.used ≤ v → CountedTo d row₀ v row n → n ≡ changes d
  unfolding changes
  count_end {v = v} h l so =
      let all : v ≡ d.used = omega arith in
      rw all at so.number

  -- no more changes than nodes; and the row keeps its length
  pub count_few : {row₀ row : List ℕ} {v n : ℕ} → CountedTo d row₀ v row n → n ≤ v
  count_few {v = v} so = rw so.number (count_most (changed d) v)

  pub row_kept : (row₀ : List ℕ) {row : List ℕ} {v : ℕ} → d.used ≤ length row₀ → v ≤ d.used → RowTo d row₀ v row → length row ≡ length row₀
  row_kept row₀ {v = v} long h so = row_long (mended_mark d.rows d.marks) row₀ v so (omega arith)

  -- node v and its parent are in the row
  pub reachable : (row₀ : List ℕ) {row : List ℕ} {v : ℕ} → d.used ≤ length row₀ → v < d.used → RowTo d row₀ v row → Reached d.rows d.marks row v
  reachable row₀ {v = v} long h so =
      let same = row_kept row₀ long (omega arith) so in
      record {
        mark = omega (arith, (shape_facts d shape).3);
        place = rw same (omega arith);
        above = rw same (omega (arith, above v h));
      }

  -- listing: one that becomes another has its place in the list
  module _ (list₀ : List ℕ) (room : 3 * changes d ≤ length list₀) where
    room_left : (v : ℕ) → v < d.used → changed d v ≡ true → 3 * count (changed d) v + 2 < length list₀
    unfolding changes
    room_left v h e = omega (arith, count_holds (changed d) v d.used h e, room)

    module _ {marks list : List ℕ} {v at : ℕ} (h : v < d.used) (so : PutTo d list₀ v marks list at) where
      -- what the code reads of node v is as it was
      mark_is : get_or marks v 0 ≡ mark d v
      mark_is = row_old (mended_mark d.rows d.marks) d.marks v so.written v (omega arith)

      list_long : length list ≡ 3 * count (changed d) v + (length list₀ - 3 * count (changed d) v)
      list_long = rw so.listed (length-behind (change_words d v) list₀ (3 * count (changed d) v) (words_length d v))

      pub follows_here : following d.rows (get_or marks v 0) marks v ≡ mended_mark d.rows d.marks v
      follows_here = rw mark_is (follows d.marks v h so.written)

      -- so the turn can be made
      pub puttable : Reached d.rows marks marks v × Putting marks list v (following d.rows (get_or marks v 0) marks v) at
      puttable =
          let there = reachable d.marks (shape_facts d shape).3 h so.written in (
            record { mark = there.place; place = there.place; above = there.above },
            record {
              limit = omega (arith, (shape_facts d shape).1);
              mark = there.place;
              before = omega (arith, so.place, count_most (changed d) v);
              room = λ other. omega (arith, room_left v h (other_changed d v (λ e. other (mark_is ∙ e ∙ sym follows_here))), list_long, so.place);
            },
          )

      -- one node more, whose mark stays or becomes another
      module _ {marks' list' : List ℕ} {at' : ℕ} (turn : Put v (following d.rows (get_or marks v 0) marks v) at marks list marks' list' at') where
        row_on_lem : RowTo d d.marks (suc v) marks'
        row_on_lem =
            rw add-one at (turn.marks ∙ row_more (mended_mark d.rows d.marks) d.marks v so.written (omega (arith, (shape_facts d shape).3)) follows_here)

        put_same : eqb (mark d v) (mended_mark d.rows d.marks v) ≡ true → PutTo d list₀ (suc v) marks' list' at'
        unfolding count changed change_words
        put_same e = record {
          written = row_on_lem;
          listed = turn.list ∙ rw (follows_here, mark_is, e) so.listed;
          place = turn.next ∙ rw (follows_here, mark_is, e) so.place;
        }

        put_other : eqb (mark d v) (mended_mark d.rows d.marks v) ≡ false → PutTo d list₀ (suc v) marks' list' at'
        unfolding count changed change_words
        put_other e =
            let c = count (changed d) v in
            let on : 3 * suc c ≡ 3 * c + 3 = omega arith in
            record {
              written = row_on_lem;
              listed = turn.list
                  ∙ rw (follows_here, mark_is, e, so.place, so.listed, on)
                  (set_three (change_words d v) list₀ (3 * c) v (mark d v) (mended_mark d.rows d.marks v) (words_length d v) (room_left v h (rw e refl)));
              place = turn.next ∙ rw (follows_here, mark_is, e, so.place) (sym on);
            }

        pub put_more : PutTo d list₀ (v + 1) marks' list' at'
        put_more = rw (add-one v) (go (eqb (mark d v) (mended_mark d.rows d.marks v)) refl)
          where
            go : (b : Bool) → eqb (mark d v) (mended_mark d.rows d.marks v) ≡ b → PutTo d list₀ (suc v) marks' list' at'
            go true e = put_same e
            go false e = put_other e

    pub put_start : PutTo d list₀ 0 d.marks list₀ 0
    unfolding count change_words
    put_start = record { written = row_start (mended_mark d.rows d.marks) d.marks; listed = refl; place = refl }

    -- the list keeps its length
    pub list_kept : {marks list : List ℕ} {v at : ℕ} → v ≤ d.used → PutTo d list₀ v marks list at → length list ≡ length list₀
    unfolding changes
    list_kept {v = v} h so =
        rw (so.listed, length-behind (change_words d v) list₀ (3 * count (changed d) v) (words_length d v))
        (omega (arith, count_mono (changed d) v d.used h, room))

    pub put_end : {marks list : List ℕ} {v at : ℕ} → v ≤ d.used → d.used ≤ v → PutTo d list₀ v marks list at → (marks ≡ mended_marks d) × (list ≡ change_list d list₀)
    unfolding mended_marks change_list changes
    put_end {v = v} h l so =
        let all : v ≡ d.used = omega arith in
        (rw all at so.written, rw all at so.listed)
