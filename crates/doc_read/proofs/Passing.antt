-- One turn of the pass: the set and the answer of the next node.
use Prim.Native.Nat.{ℕ, pred, ◌+◌, ◌<◌, ◌≤◌}
use mathlib.Core.Path.{◌≡◌, ◌∙◌}
use mathlib.Core.Bool.{false, ◌&&◌, cond}
use mathlib.Core.List.{List, ◌++◌}
use native.Mathlib.Nat.{lt_of_lt_of_le}
use native.Mathlib.Numerals.{add-one}
use native.Mathlib.Omega.{arith}
use lib.Dec.{eqb}
use lib.ListN.{length, drop, get_or, set, length-set}
use lib.Seq.{get_or-set_same, get_or-set_other}
use borrow.Author.Count.{below_more}
use Rattle.tables.specs.Limits.{word_limit}
use Rattle.tables.specs.Words.{tag}
use Rattle.tables.specs.Documents.{doc}
use Rattle.selection.specs.Lists.{tab, somewhere}
use Rattle.selection.specs.Ways.{stays}
use Rattle.selection.proofs.Filling.{row_more, row_old, row_end}
use Rattle.pattern_set.specs.Sets.{bit, next_set, word_steps, Word}
use Rattle.pattern_masks.specs.Masks.{shared}
use Rattle.pattern_masks.proofs.Masks.{table_agrees}
use Rattle.doc_read.specs.Standing.{standing, asked, shown_byte, set_above, enters, Held, Passable, Passed, Placed}
use Rattle.doc_read.proofs.Finding.{stood_more}
use Rattle.doc_read.proofs.Standing.{node_set}

-- no node yet
pub held_none : (p t : List ℕ) (from : ℕ) (sets : List ℕ) → Held p t from 0 sets
held_none p t from sets = record { set = λ u h. absurd (omega arith) }

-- one set more
module _ (p t : List ℕ) (from : ℕ) (sets : List ℕ) (v : ℕ) (room : v < length sets) (own : ℕ) where
  pub held_more : Held p t from v sets → Word (standing p t v) from own → Held p t from (v + 1) (set sets v own)
  held_more held w =
      record {
        set =
            below_more (λ (u : ℕ). Word (standing p t u) from (get_or (set sets v own) u 0)) v
            (λ u k. rw (get_or-set_other sets v u own 0 (λ e. omega arith)) (held.set u k))
            (rw (get_or-set_same sets v own 0 room) w);
      }

  pub near_more : 0 < v + 1 → own ≡ get_or (set sets v own) (pred (v + 1)) 0
  near_more h = rw (add-one, get_or-set_same sets v own 0 room)

module _ (p : List ℕ) (from : ℕ) (wanted : List ℕ) {low high : List ℕ} (t marks : List ℕ) (used : ℕ) {carry start old : List ℕ} (able : Passable p from wanted low high t marks used carry start old) where
  -- a place from which the pass goes on
  pub placed : {sets : List ℕ} → length sets ≡ length start → (v : ℕ) → v < used → {own : ℕ} → (0 < v → own ≡ get_or sets (pred v) 0) → Placed t v sets own × (v < length carry)
  placed long v h near = (
    record {
      node = lt_of_lt_of_le h able.carrying.readable.words;
      room = omega (arith, able.carrying.room);
      above = λ k. able.carrying.readable.parents v k h;
      near = near;
    },
    lt_of_lt_of_le h able.carrying.carries,
  )

  -- the set of the next node
  set_next : {sets : List ℕ} (v : ℕ) → v < used → Held p t from v sets → {staying : ℕ} → Word (stays p false) from staying → {l g own : ℕ} → l ≡ tag t v → (l < word_limit) × Word (shared low high l) 0 g → Word (next_set (bit g) (bit staying) (enters from t carry v) (bit (set_above t sets v))) 0 own → Word (standing p t v) from own
  set_next v h held stay {l} q w =
      node_set p t used able.carrying.readable.parents able.carrying.carried v h held
      (rw q at (table_agrees p from able.lows able.highs l w.0 w.1)) stay

  pub sets_room : (sets : List ℕ) → length sets ≡ length start → (v : ℕ) → v < used → v < length sets
  sets_room sets long v h = omega (arith, able.carrying.room)

  module _ {row : List ℕ} (v : ℕ) (e : row ≡ tab (shown_byte p wanted (doc t marks used) (from + word_steps)) v ++ drop v old) where
    -- its byte is as the words before left it
    byte_before : v < used → get_or row v 0 ≡ shown_byte p wanted (doc t marks used) from v
    byte_before h = row_old (shown_byte p wanted (doc t marks used) (from + word_steps)) old v e v (omega arith) ∙ able.carrying.shown v h

    -- all that holds behind the turn
    pub turn : {sets : List ℕ} {staying word : ℕ} → Word (stays p false) from staying → Word (asked p wanted) from word → v < used → Held p t from v sets → length sets ≡ length start → {l g m own b : ℕ} → l ≡ tag t v → (l < word_limit) × Word (shared low high l) 0 g → Word (next_set (bit g) (bit staying) (enters from t carry v) (bit (set_above t sets v))) 0 own → m ≡ get_or marks v 0 → b ≡ cond (eqb m 0 && somewhere (λ i. bit own i && bit word i) word_steps) 1 (get_or row v 0)
        → (v + 1 ≤ used) × Held p t from (v + 1) (set sets v own) × (length (set sets v own) ≡ length start) × (0 < v + 1 → own ≡ get_or (set sets v own) (pred (v + 1)) 0) × (set row v b ≡ tab (shown_byte p wanted (doc t marks used) (from + word_steps)) (v + 1) ++ drop (v + 1) old)
    turn {sets} stay asks h held long {own = own} q w r m b =
        let stands : Word (standing p t v) from own = set_next v h held stay q w r in (
          omega arith,
          held_more p t from sets v (sets_room sets long v h) own held stands,
          simp length-set long,
          near_more p t from sets v (sets_room sets long v h) own,
          row_more (shown_byte p wanted (doc t marks used) (from + word_steps)) old v e (lt_of_lt_of_le h able.carrying.readable.long)
              (stood_more p wanted (doc t marks used) from v h stands asks m (byte_before h) b),
        )

    -- what is left when all nodes are passed
    pub turned : v ≤ used → used ≤ v → {sets : List ℕ} → Held p t from v sets → Passed p from wanted t marks used old sets row
    turned h l held =
        let same : used ≡ v = omega arith in
        record {
          held = rw same held;
          row = row_end (shown_byte p wanted (doc t marks used) (from + word_steps)) old v e used h l;
        }
