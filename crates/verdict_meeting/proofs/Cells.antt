-- One cell after the other: which numbers are read, what is written, and what the row and the moves then hold.
use Prim.Native.Nat.{ℕ, zero, suc, pred, ◌+◌, ◌-◌, ◌^◌, ◌<◌, ◌≤◌}
use mathlib.Core.Path.{◌≡◌, refl, ◌∙◌}
use mathlib.Core.Bool.{Bool, cond}
use mathlib.Core.List.{List}
use native.Mathlib.Decide.{dec_lt}
use native.Mathlib.Nat.{le_refl}
use native.Mathlib.Numerals.{sub-one}
use native.Mathlib.Omega.{arith}
use borrow.Author.Tests.{ne_eqb}
use lib.ListN.{length, get_or, set, length-set}
use lib.Seq.{get_or-set_same, get_or-set_other}
use Rattle.tables.specs.Limits.{step_limit, word_limit}
use Rattle.tables.specs.Words.{steps, label}
use Rattle.selection.specs.Ways.{stays}
use Rattle.conflict.specs.Meeting.{agree, sooner, least, fewest, fewest_of}
use Rattle.conflict.proofs.Shortest.{fewest_of_most}
use Rattle.verdict_meeting.specs.Cells.{together, alone, both_land, read_lands, update_lands, choose, move_of, cell_at, RowHeld, MovesHeld, Next}
use Rattle.verdict_meeting.proofs.Places.{cell_start, cell_fits, cell_next, cell_row, cell_row_same, cell_column_same}

-- only the numbers that there are count
together-same : (may : Bool) (i j : ℕ) {n m : ℕ} → (0 < i → 0 < j → n ≡ m) → together may i j n ≡ together may i j m
unfolding together
together-same may zero zero h = refl
together-same may zero (suc j) h = refl
together-same may (suc i) zero h = refl
together-same may (suc i) (suc j) h = rw (h (omega arith) (omega arith))

alone-same : (may : Bool) (i : ℕ) {n m : ℕ} → (0 < i → n ≡ m) → alone may i n ≡ alone may i m
unfolding alone
alone-same may zero h = refl
alone-same may (suc i) h = rw (h (omega arith))

-- one that is not there is passed over
none_least : (n : ℕ) → least 0 n ≡ n
unfolding least sooner
none_least n = refl

least_none : (n : ℕ) → least n 0 ≡ n
unfolding least sooner
least_none zero = refl
least_none (suc n) = rw (ne_eqb (suc n) 0 (λ e. omega arith))

module _ (r : List ℕ) (below : Bool) (p : List ℕ) (under : Bool) where
  -- a number of labels is a word, as the states are steps
  number_word : (i j : ℕ) → i < step_limit → j < step_limit → fewest_of r below p under i j < word_limit
  number_word i j h k = omega (arith, fewest_of_most r below p under i j)

  -- the number of i and j, from those of the states before
  fewest_cell : (i j : ℕ)
      → least (both_land r below p under i j) (least (read_lands r below p under i j) (update_lands r below p under i j)) ≡ fewest_of r below p under i j
  unfolding both_land read_lands update_lands together alone fewest_of fewest
  fewest_cell zero zero = rw (none_least 0, least_none (cond (agree (label r 0) (label p 0)) 1 0))
  fewest_cell zero (suc j) = rw (none_least, none_least)
  fewest_cell (suc i) zero = rw (none_least, least_none)
  fewest_cell (suc i) (suc j) = refl

  module _ (i j corner : ℕ) (row : List ℕ) (next : Next r below p under i j corner row) where
    row_inside : i < step_limit
    row_inside = omega (arith, next.reads, next.bounded.reads)

    column_inside : j < step_limit
    column_inside = omega (arith, next.updates, next.bounded.updates)

    -- the numbers before that of i and j
    read_number : {x : ℕ} → x ≡ get_or row j 0 → 0 < i → x ≡ fewest_of r below p under (pred i) j
    read_number e h = e ∙ next.held.earlier j (le_refl j) next.updates h

    update_number : {x k : ℕ} → k ≡ j - 1 → x ≡ get_or row k 0 → 0 < j → x ≡ fewest_of r below p under i (pred j)
    update_number {x} {k} d e h = e ∙ rw (d, sub-one j) (next.held.own (pred j) (omega arith))

    pub both_word : 0 < i → 0 < j → corner < word_limit
    both_word h l = rw (next.held.in_hand h l) (number_word (pred i) (pred j) (omega (arith, row_inside)) (omega (arith, column_inside)))

    pub read_word : {x : ℕ} → x ≡ get_or row j 0 → 0 < i → x < word_limit
    read_word e h = rw (read_number e h) (number_word (pred i) j (omega (arith, row_inside)) column_inside)

    pub update_word : {x k : ℕ} → k ≡ j - 1 → x ≡ get_or row k 0 → 0 < j → x < word_limit
    update_word d e h = rw (update_number d e h) (number_word i (pred j) row_inside (omega (arith, column_inside)))

    -- the cell that is chosen from them
    module _ {both x read k y update : ℕ} (a : both ≡ together (agree (label r i) (label p j)) i j corner)
        (b : x ≡ get_or row j 0) (c : read ≡ alone (stays p under j) i x)
        (d : k ≡ j - 1) (e : y ≡ get_or row k 0) (f : update ≡ alone (stays r below i) j y) where
      both_is : both ≡ both_land r below p under i j
      unfolding both_land
      both_is = a ∙ together-same (agree (label r i) (label p j)) i j next.held.in_hand

      read_is : read ≡ read_lands r below p under i j
      unfolding read_lands
      read_is = c ∙ alone-same (stays p under j) i (read_number b)

      update_is : update ≡ update_lands r below p under i j
      unfolding update_lands
      update_is = f ∙ alone-same (stays r below i) j (update_number d e)

      pub cell_number : {n : ℕ} → n ≡ least both (least read update) → n ≡ fewest_of r below p under i j
      cell_number h = rw (h, both_is, read_is, update_is) (fewest_cell i j)

      pub cell_move : {m : ℕ} → m ≡ choose both read update → m ≡ move_of r below p under i j
      unfolding move_of
      cell_move h = rw (h, both_is, read_is, update_is)

    -- the row after its number is written
    pub number_fits : {x : ℕ} → x ≡ fewest_of r below p under i j → x < word_limit
    number_fits e = rw e (number_word i j row_inside column_inside)

    pub number_inside : j < length row
    number_inside = omega (arith, next.updates, next.held.room)

    pub row_stored : {x c : ℕ} {written : List ℕ} → c ≡ get_or row j 0 → x ≡ fewest_of r below p under i j → written ≡ set row j x
        → RowHeld r below p under i (j + 1) c written
    row_stored {x} {c} {written} d e w =
        rw w
        record {
          room = simp length-set next.held.room;
          own = λ b h. go b h (dec_lt b j);
          earlier = λ b h l k. get_or-set_other row j b x 0 (λ q. omega arith) ∙ next.held.earlier b (omega arith) l k;
          in_hand = λ h l. let before : pred (j + 1) ≡ j = omega arith in rw before (read_number d h);
        }
      where
        go : (b : ℕ) → b < j + 1 → Dec (b < j) → get_or (set row j x) b 0 ≡ fewest_of r below p under i b
        go b h (yes l) = get_or-set_other row j b x 0 (λ q. omega arith) ∙ next.held.own b l
        go b h (no l) =
            let same : b ≡ j = omega arith in
            rw same (get_or-set_same row j x 0 number_inside ∙ e)

    -- and the moves after its own is stored, j behind the start of the row
    pub move_fits : {start : ℕ} → start ≡ cell_at (steps p) i 0 → start + j < 2 ^ 64
    move_fits d = rw (cell_start (steps p) i j d) (cell_fits (steps p) i j next.bounded.updates row_inside column_inside)

    pub move_stored : {m start : ℕ} {moves written : List ℕ} → start ≡ cell_at (steps p) i 0
        → MovesHeld r below p under (cell_at (steps p) i j) moves → m ≡ move_of r below p under i j → written ≡ set moves (start + j) m
        → MovesHeld r below p under (cell_at (steps p) i (j + 1)) written
    move_stored {m} {start} {moves} d held e w =
        rw (w, cell_start (steps p) i j d) record { stored = λ a b h l s. go a b h l (simp length-set at s) (dec_lt (cell_at (steps p) a b) (cell_at (steps p) i j)) }
      where
        go : (a b : ℕ) → b < steps p → cell_at (steps p) a b < cell_at (steps p) i (j + 1) → cell_at (steps p) a b < length moves
            → Dec (cell_at (steps p) a b < cell_at (steps p) i j) → get_or (set moves (cell_at (steps p) i j) m) (cell_at (steps p) a b) 0 ≡ move_of r below p under a b
        go a b h l s (yes q) = get_or-set_other moves (cell_at (steps p) i j) (cell_at (steps p) a b) m 0 (λ e. omega arith) ∙ held.stored a b h q s
        go a b h l s (no q) =
            let same : cell_at (steps p) a b ≡ cell_at (steps p) i j = omega (arith, cell_next (steps p) i j) in
            let line : a ≡ i = cell_row_same (steps p) a b i j h next.updates same in
            let column : b ≡ j = cell_column_same (steps p) a b i j line same in
            rw (line, column) (get_or-set_same moves (cell_at (steps p) i j) m 0 (rw same at s) ∙ e)

  -- from the end of a row to the next
  module _ (i j : ℕ) {n : ℕ} (few : j ≤ n) (end : n ≤ j) (all : n ≡ steps p) where
    pub row_on_lem : {corner : ℕ} {row : List ℕ} → RowHeld r below p under i j corner row → RowHeld r below p under (i + 1) 0 0 row
    row_on_lem held = record {
      room = held.room;
      own = λ b h. absurd (omega arith);
      earlier = λ b h l k. let before : pred (i + 1) ≡ i = omega arith in rw before (held.own b (omega arith));
      in_hand = λ h l. absurd (omega arith);
    }

    pub moves_on : {moves : List ℕ} → MovesHeld r below p under (cell_at (steps p) i j) moves → MovesHeld r below p under (cell_at (steps p) (i + 1) 0) moves
    moves_on held = rw (cell_row (steps p) i j (omega arith)) at held

  -- before the first row
  pub row_none : {row : List ℕ} → steps p ≤ length row → RowHeld r below p under 0 0 0 row
  row_none room = record {
    room = room;
    own = λ b h. absurd (omega arith);
    earlier = λ b h l k. absurd (omega arith);
    in_hand = λ h l. absurd (omega arith);
  }

  pub moves_none : {moves : List ℕ} → MovesHeld r below p under (cell_at (steps p) 0 0) moves
  unfolding cell_at
  moves_none = record { stored = λ a b h l s. absurd (omega arith) }

  -- behind the last
  pub moves_all : (i : ℕ) {m : ℕ} {moves : List ℕ} → i ≤ m → m ≤ i → m ≡ steps r → MovesHeld r below p under (cell_at (steps p) i 0) moves
      → MovesHeld r below p under (cell_at (steps p) (steps r) 0) moves
  moves_all i h l e held = let all : i ≡ steps r = omega arith in rw all at held
