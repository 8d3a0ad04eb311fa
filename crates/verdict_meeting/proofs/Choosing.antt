-- The branches of the code that chooses and makes a move, held against those of the definitions.
use Prim.Native.Nat.{ℕ, zero, suc, pred, ◌-◌, ◌<◌}
use mathlib.Core.Path.{◌≡◌, refl, ◌∙◌}
use mathlib.Core.Bool.{Bool, true, false, cond}
use native.Mathlib.Numerals.{sub-one}
use native.Mathlib.Omega.{arith}
use lib.Dec.{eqb}
use mir.Val.{bool_byte}
use borrow.Author.Tests.{ne_eqb}
use Rattle.conflict.specs.Meeting.{agree, sooner, least, onward}
use Rattle.verdict_landing.specs.Landing.{pick}
use Rattle.verdict_meeting.specs.Cells.{together, alone, choose}
use Rattle.verdict_meeting.specs.Tracing.{update_after}

together_inner : (may : Bool) (n i j : ℕ) → (i ≡ 0 → ⊥) → (j ≡ 0 → ⊥) → onward may n ≡ together may i j n
unfolding together
together_inner may n zero j f g = absurd (f refl)
together_inner may n (suc i) zero f g = absurd (g refl)
together_inner may n (suc i) (suc j) f g = refl

-- a bool as a number
number_is : (t : Bool) → bool_byte t ≡ cond t 1 0
number_is true = refl
number_is false = refl

-- both land, by whether their labels agree
module _ (a b i j n : ℕ) {x y k : ℕ} {t : Bool} (d : x ≡ a) (e : y ≡ b) (h : t ≡ agree x y) where
  pub together_first : i ≡ 0 → j ≡ 0 → k ≡ bool_byte t → k ≡ together (agree a b) i j n
  unfolding together
  together_first f g c = rw (f, g, ← d, ← e, ← h) (c ∙ number_is t)

  pub together_later : (i ≡ 0 → ⊥) → (j ≡ 0 → ⊥) → k ≡ onward t n → k ≡ together (agree a b) i j n
  together_later f g c = rw (← d, ← e, ← h) (c ∙ together_inner t n i j f g)

module _ (may : Bool) where
  pub together_update : (i j n : ℕ) → i ≡ 0 → (j ≡ 0 → ⊥) → 0 ≡ together may i j n
  unfolding together
  together_update zero zero n e f = absurd (f refl)
  together_update zero (suc j) n e f = refl
  together_update (suc i) j n e f = absurd (omega arith)

  pub together_read : (i j n : ℕ) → (i ≡ 0 → ⊥) → j ≡ 0 → 0 ≡ together may i j n
  unfolding together
  together_read zero j n e f = absurd (e refl)
  together_read (suc i) zero n e f = refl
  together_read (suc i) (suc j) n e f = absurd (omega arith)

  pub alone_first : (i n : ℕ) → i ≡ 0 → 0 ≡ alone may i n
  unfolding alone
  alone_first i n e = rw e

  pub alone_later : (i n : ℕ) {k : ℕ} {t : Bool} → t ≡ may → (i ≡ 0 → ⊥) → k ≡ onward t n → k ≡ alone may i n
  unfolding alone
  alone_later zero n d e h = absurd (e refl)
  alone_later (suc i) n d e h = rw (← d) h

pub not_first : {n : ℕ} → (n ≡ 0 → ⊥) → 0 < n
not_first h = omega arith

-- the least of three, and its move
module _ (m n k : ℕ) {t : Bool} {d : ℕ} (e : d ≡ least n k) (h : t ≡ sooner m d) where
  pub first_least : t ≡ true → m ≡ least m (least n k)
  unfolding least
  first_least v = rw (← e, ← h, v)

  pub first_move : t ≡ true → 0 ≡ choose m n k
  unfolding choose
  first_move v = rw (← e, ← h, v)

  module _ {s : Bool} (v : t ≡ false) (g : s ≡ sooner n k) where
    later_least : least m (least n k) ≡ cond s n k
    unfolding least
    later_least = rw (← e, ← h, v) (e ∙ rw (← g))

    later_move : choose m n k ≡ cond s 1 2
    unfolding choose
    later_move = rw (← e, ← h, v, ← g)

    pub second_least : s ≡ true → n ≡ least m (least n k)
    second_least w = rw (later_least, w)

    pub second_move : s ≡ true → 1 ≡ choose m n k
    second_move w = rw (later_move, w)

    pub third_least : s ≡ false → k ≡ least m (least n k)
    third_least w = rw (later_least, w)

    pub third_move : s ≡ false → 2 ≡ choose m n k
    third_move w = rw (later_move, w)

module _ (i m : ℕ) where
  pub update_stays : m ≡ 1 → i ≡ update_after i m
  unfolding update_after pick
  update_stays z = rw z

  pub update_moves : {k : ℕ} → (m ≡ 1 → ⊥) → k ≡ i - 1 → k ≡ update_after i m
  unfolding update_after pick
  update_moves {k} n h = go (eqb m 0)
    where
      go : (t : Bool) → k ≡ cond t (pred i) (cond (eqb m 1) i (pred i))
      go true = h ∙ sub-one i
      go false = rw (ne_eqb m 1 n) (h ∙ sub-one i)

-- the best that is kept, or the new one
module _ (m n a b : ℕ) {t : Bool} (h : t ≡ sooner m n) where
  pub kept_best : t ≡ true → a ≡ cond (sooner m n) a b
  kept_best v = rw (← h, v)

  pub new_best : t ≡ false → b ≡ cond (sooner m n) a b
  new_best v = rw (← h, v)
