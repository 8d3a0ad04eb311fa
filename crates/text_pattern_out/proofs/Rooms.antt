-- The room for a text, asked step by step: what is left of the room for what is left of the text.
use Prim.Native.Nat.{ℕ, ◌+◌, ◌-◌, ◌<◌, ◌≤◌}
use mathlib.Core.Path.{◌≡◌, sym, ◌∙◌, ap}
use mathlib.Core.List.{List}
use native.Mathlib.Decide.{dec_le}
use native.Mathlib.Omega.{arith}
use lib.ListN.{length}
use borrow.Author.Tests.{le-leb, lt-leb}
use Rattle.tables.specs.Words.{steps, axis, label}
use Rattle.tables.specs.Checks.{refuse, output_check, Checked, Fine}
use Rattle.check_size.proofs.Branches.{output_short, output_long}
use Rattle.text_parts.specs.Next.{next}
use Rattle.text_names.specs.Names.{feed, lines}
use Rattle.text_pattern.specs.Texts.{slashes, spell}
use Rattle.text_pattern.specs.Meaning.{word_of, steps_from, text_of}
use Rattle.text_pattern_out.specs.Lookup.{NameFrom}
use Rattle.text_pattern_out.proofs.Lookup.{name_long}
use Rattle.text_pattern_out.proofs.Steps.{slashes_two, slashes_one, word_star, word_name, left_all, left_here, left_none}

-- the branches on an axis and on a label
module _ {a : ℕ} where
  pub two_slashes : a ≡ 2 → 2 ≡ length (slashes a)
  two_slashes e = rw (slashes_two e)

  pub one_slash : (a ≡ 2 → ⊥) → 1 ≡ length (slashes a)
  one_slash h = rw (slashes_one h)

module _ (list : List ℕ) (l : ℕ) where
  pub star_long : l ≡ 0 → 1 ≡ length (word_of (lines list) l)
  star_long e = rw (word_star (lines list) l e)

  pub word_long : (l ≡ 0 → ⊥) → l ≤ length (lines list) → {from n : ℕ} → NameFrom list (l - 1) from → n ≡ next feed list from - from → n ≡ length (word_of (lines list) l)
  word_long h m e is = rw (word_name (lines list) l h) (name_long list e (omega arith) is)

-- some bytes of a text, then the rest, in so much room: the rest in what is left of it
output_less : (a b room : ℕ) → a ≤ room → output_check (a + b) room ≡ output_check b (room - a)
unfolding output_check
output_less a b room h = go (dec_le (a + b) room)
  where
    go : Dec (a + b ≤ room) → output_check (a + b) room ≡ output_check b (room - a)
    go (yes m) = rw (le-leb (a + b) room m, le-leb b (room - a) (omega arith))
    go (no m) = rw (lt-leb (a + b) room (omega arith), lt-leb b (room - a) (omega arith))

module _ (ws : List (List ℕ)) (p : List ℕ) where
  pub room_start : (room : ℕ) → output_check (length (text_of ws p)) room ≡ output_check (length (spell (steps_from ws p 0 (steps p - 0)))) room
  room_start room = ap (λ (t : List ℕ). output_check (length t) room) (left_all ws p)

  module _ {whole : Checked} (i n left : ℕ) (e : whole ≡ output_check (length (spell (steps_from ws p i (n - i)))) left) where
    pub room_end : n ≤ i → Fine ≡ whole
    room_end h =
        let none : length (spell (steps_from ws p i (n - i))) ≤ left = omega (arith, left_none ws p i n h) in
        output_long _ left none ∙ sym e

    module _ {a l s w : ℕ} (below : i < n) (axed : a ≡ axis p i) (labelled : l ≡ label p i) (slashed : s ≡ length (slashes a)) (worded : w ≡ length (word_of ws l)) where
      step_left : length (spell (steps_from ws p i (n - i))) ≡ s + w + length (spell (steps_from ws p (i + 1) (n - (i + 1))))
      step_left = left_here ws p i n below ∙ rw (← axed, ← labelled, ← slashed, ← worded)

      pub room_short : {answer : Checked} → left < s + w → answer ≡ refuse 7 4 0 → answer ≡ whole
      room_short h r = output_short _ left r (omega (arith, step_left)) ∙ sym e

      pub room_more : s + w ≤ left → whole ≡ output_check (length (spell (steps_from ws p (i + 1) (n - (i + 1))))) (left - s - w)
      room_more h =
          let q : left - (s + w) ≡ left - s - w = omega arith in
          e ∙ rw (step_left, output_less (s + w) (length (spell (steps_from ws p (i + 1) (n - (i + 1))))) left h, q)
