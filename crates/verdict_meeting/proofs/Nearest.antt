-- The way that is written: from the filled rows to the shortest of the marked states.
use Prim.Native.Nat.{ℕ, zero, suc, pred, ◌+◌, ◌*◌, ◌<◌, ◌≤◌}
use mathlib.Core.Path.{◌≡◌, refl, sym, ◌∙◌, ap}
use mathlib.Core.Bool.{Bool, true, false, cond}
use mathlib.Core.List.{List, [], ◌∷◌, ◌++◌}
use native.Mathlib.Numerals.{add-one}
use native.Mathlib.Omega.{arith}
use lib.Dec.{eqb}
use lib.ListN.{length, drop, get_or}
use borrow.Author.Tests.{ne_eqb, le-leb, lt-leb}
use Rattle.tables.specs.Limits.{step_limit}
use Rattle.tables.specs.Words.{steps}
use Rattle.conflict.specs.Meeting.{sooner, shorter, meeting_of, fewest_of}
use Rattle.conflict.specs.Crossing.{chain}
use Rattle.conflict.proofs.Shortest.{length-meeting_of, fewest_of_most}
use Rattle.check_verdict.specs.Admitted.{Bounded}
use Rattle.check_verdict.specs.Order.{needed}
use Rattle.verdict_meeting.specs.Tracing.{left, Traceable}
use Rattle.verdict_meeting.specs.Met.{marked_way, nearest, Met}
use Rattle.verdict_meeting.proofs.Places.{product_most}
use Rattle.verdict_meeting.specs.Cells.{cell_at, RowHeld, MovesHeld}
use Rattle.verdict_meeting.specs.Nearing.{Near, Asked, Lent}

left_most : (r : List ℕ) (below : Bool) (p : List ℕ) (under : Bool) (n i j : ℕ) → length (left n (meeting_of r below p under i j)) ≡ n → n ≤ i + j + 1
unfolding left
left_most r below p under zero i j e = omega arith
left_most r below p under (suc n) i j e = omega (arith, length-meeting_of r below p under i j, fewest_of_most r below p under i j)

-- a way that there may be, by its own number
cond-left : (t : Bool) (w : List ℕ) → cond t w [] ≡ left (length (cond t w [])) w
unfolding left
cond-left true [] = refl
cond-left true (l ∷ w) = refl
cond-left false w = refl

module _ (r : List ℕ) (below : Bool) (p : List ℕ) (under : Bool) (states : List ℕ) (j : ℕ) where
  pub near_none : 0 < steps r → Near r below p under states j 0 0 0
  unfolding nearest left
  near_none h = record { way = refl; count = refl; inside = h }

  module _ {i state number n : ℕ} (near : Near r below p under states j i state number) (h : i < steps r) (c : n ≡ length (marked_way r below p under states j i)) where
    near_kept : (t : Bool) → sooner (length (nearest r below p under states j i)) (length (marked_way r below p under states j i)) ≡ t
        → Near r below p under states j (suc i) (cond t state i) (cond t number n)
    unfolding nearest shorter marked_way
    near_kept true e = record { way = rw e near.way; count = rw e near.count; inside = near.inside }
    near_kept false e =
        record {
          way = rw (e, c) (cond-left (eqb (get_or states i 0) 1) (meeting_of r below p under i j));
          count = rw e (sym c);
          inside = h;
        }

    pub near_more : {better place : ℕ} → better ≡ cond (sooner number n) number n → place ≡ cond (sooner number n) state i → Near r below p under states j (i + 1) place better
    near_more d f = rw (d, f, add-one) (near_kept (sooner number n) (rw (near.count, ← c)))

  pub near_all : (i : ℕ) {m state number : ℕ} → i ≤ m → m ≤ i → m ≡ steps r → Near r below p under states j i state number
      → Near r below p under states j (steps r) state number
  near_all i h l e near = let all : i ≡ steps r = omega arith in rw all at near

  module _ (row : List ℕ) (i : ℕ) (held : RowHeld r below p under (i + 1) 0 0 row) (asked : Asked r p j) where
    -- the number of a marked state is that of its row
    pub candidate_some : {b n : ℕ} → b ≡ get_or states i 0 → b ≡ 1 → n ≡ get_or row j 0 → n ≡ length (marked_way r below p under states j i)
    unfolding marked_way
    candidate_some d v c =
        let own : get_or row j 0 ≡ fewest_of r below p under (pred (i + 1)) j = held.earlier j (omega arith) asked.column (omega arith) in
        let before : pred (i + 1) ≡ i = omega arith in
        rw (← d, v) (c ∙ own ∙ rw before (sym (length-meeting_of r below p under i j)))

  pub candidate_none : (i : ℕ) {b : ℕ} → b ≡ get_or states i 0 → (b ≡ 1 → ⊥) → 0 ≡ length (marked_way r below p under states j i)
  unfolding marked_way
  candidate_none i {b} d v = rw (← d, ne_eqb b 1 v)

  module _ (moves : List ℕ) {state number : ℕ} (near : Near r below p under states j (steps r) state number) where
    -- the best of all states is traced, and its way is the shortest
    near_long : length (left number (meeting_of r below p under state j)) ≡ number
    near_long = sym (ap length near.way) ∙ near.count

    pub near_traced : (out : List ℕ) {n : ℕ} → Asked r p j → MovesHeld r below p under (cell_at (steps p) (steps r) 0) moves
        → Lent r p n out → length moves ≡ n → needed r p ≤ length out → Traceable r below p under number state j moves out
    near_traced out asked held lent same room =
        record {
          moved = record { bounded = asked.bounded; all = rw same (lent.all room); held = held };
          reads = near.inside;
          updates = asked.column;
          long = near_long;
          room = omega (arith, left_most r below p under number state j near_long, near.inside, asked.column);
        }

  module _ {state number : ℕ} (near : Near r below p under states j (steps r) state number) where
    pub near_written : (before after : List ℕ) → after ≡ chain (left number (meeting_of r below p under state j)) ++ drop (2 * number) before
        → needed r p ≤ length before → Met r p (nearest r below p under states j (steps r)) before after number
    near_written before after w room =
        record { count = sym near.count; words = rw (le-leb (needed r p) (length before) room, near.way) w }

    -- where there is no room, it is counted only
    pub near_counted : (out : List ℕ) → length out < needed r p → Met r p (nearest r below p under states j (steps r)) out out number
    near_counted out short = record { count = sym near.count; words = rw (lt-leb (needed r p) (length out) short) }

-- the moves that are lent are enough
module _ (r p out : List ℕ) where
  pub lent_none : length out < needed r p → Lent r p 0 out
  lent_none short = record { all = λ room. absurd (omega arith) }

  pub lent_some : {n : ℕ} → steps p * steps r ≤ n → Lent r p n out
  unfolding cell_at
  lent_some h = record { all = λ room. omega (arith, h) }

  pub lent_all : Bounded r p → Lent r p (step_limit * step_limit) out
  lent_all b = lent_some (product_most (steps p) (steps r) b.updates b.reads)
