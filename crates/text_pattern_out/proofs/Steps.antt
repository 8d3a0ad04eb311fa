-- The text of a pattern, step by step: from the front, and what is left of it.
use Prim.Native.Nat.{ℕ, zero, suc, ◌+◌, ◌-◌, ◌<◌, ◌≤◌}
use mathlib.Core.Path.{◌≡◌, refl, sym, ◌∙◌, ap}
use mathlib.Core.Bool.{Bool, true, false, cond}
use mathlib.Core.List.{List, [], ◌∷◌, ◌++◌, append_assoc, append-nil}
use native.Mathlib.Nat.{sub-zero, add-zero}
use native.Mathlib.Numerals.{add-one}
use native.Mathlib.Omega.{arith}
use lib.Dec.{eqb}
use lib.ListN.{length, get_or, length-append}
use borrow.Author.Tests.{eq-eqb, ne_eqb}
use Rattle.tables.specs.Words.{steps, axis, label}
use Rattle.text_pattern.specs.Texts.{slash, star, slashes, spell}
use Rattle.text_pattern.specs.Meaning.{word_of, steps_from, text_of}
use Rattle.text_pattern_out.specs.Steps.{step_text, first_steps}

-- the branches on an axis and on a label
module _ {a : ℕ} where
  pub slashes_two : a ≡ 2 → slashes a ≡ slash ∷ slash ∷ []
  unfolding slashes
  slashes_two e = rw (eq-eqb a 2 e)

  pub slashes_one : (a ≡ 2 → ⊥) → slashes a ≡ slash ∷ []
  unfolding slashes
  slashes_one h = rw (ne_eqb a 2 h)

pub slashes_some : (a : ℕ) → 0 < length (slashes a)
unfolding slashes
slashes_some a = go (eqb a 2)
  where
    go : (b : Bool) → 0 < length (cond b (slash ∷ slash ∷ []) (slash ∷ []))
    go true = omega arith
    go false = omega arith

module _ (ws : List (List ℕ)) (l : ℕ) where
  pub word_star : l ≡ 0 → word_of ws l ≡ star
  unfolding word_of
  word_star e = rw (eq-eqb l 0 e)

  pub word_name : (l ≡ 0 → ⊥) → word_of ws l ≡ get_or ws (l - 1) []
  unfolding word_of
  word_name h = rw (ne_eqb l 0 h)

module _ (ws : List (List ℕ)) where
  pub length-step : (a l : ℕ) → length (step_text ws a l) ≡ length (slashes a) + length (word_of ws l)
  unfolding step_text
  length-step a l = length-append (slashes a) (word_of ws l)

  module _ (p : List ℕ) where
    left-cons : (i n : ℕ) → spell (steps_from ws p i (suc n)) ≡ step_text ws (axis p i) (label p i) ++ spell (steps_from ws p (suc i) n)
    unfolding steps_from spell step_text
    left-cons i n = sym (append_assoc (slashes (axis p i)) (word_of ws (label p i)) (spell (steps_from ws p (suc i) n)))

    -- the first i steps, then n more
    first_then : (i n : ℕ) → first_steps ws p i ++ spell (steps_from ws p i n) ≡ first_steps ws p (i + n)
    unfolding first_steps steps_from spell
    first_then i zero = rw (append-nil, add-zero)
    first_then i (suc n) =
        let next : i + suc n ≡ suc i + n = omega arith in
        rw (next, left-cons i n, ← append_assoc (first_steps ws p i) (step_text ws (axis p i) (label p i)) (spell (steps_from ws p (suc i) n)))
        (first_then (suc i) n)

    pub first_all : first_steps ws p (steps p) ≡ text_of ws p
    unfolding text_of first_steps
    first_all =
        let e : 0 + steps p ≡ steps p = omega arith in
        sym (first_then 0 (steps p) ∙ rw e)

    pub first_none : first_steps ws p 0 ≡ []
    unfolding first_steps
    first_none = refl

    pub first_more : (i : ℕ) → first_steps ws p (i + 1) ≡ first_steps ws p i ++ step_text ws (axis p i) (label p i)
    unfolding first_steps
    first_more i = rw (add-one i)

    first_within : (i n : ℕ) → i ≤ n → length (first_steps ws p i) ≤ length (first_steps ws p n)
    first_within i n h =
        let e : i + (n - i) ≡ n = omega arith in
        let q : length (first_steps ws p i) + length (spell (steps_from ws p i (n - i))) ≡ length (first_steps ws p n) =
        sym (length-append (first_steps ws p i) (spell (steps_from ws p i (n - i)))) ∙ ap length (first_then i (n - i)) ∙ rw e in
        omega arith

    -- a step that is not yet written still fits
    pub step-within : (i : ℕ) → i < steps p → length (first_steps ws p i) + length (step_text ws (axis p i) (label p i)) ≤ length (text_of ws p)
    step-within i h =
        let q : length (first_steps ws p (i + 1)) ≡ length (first_steps ws p i) + length (step_text ws (axis p i) (label p i)) =
        rw (first_more i) (length-append (first_steps ws p i) (step_text ws (axis p i) (label p i))) in
        rw (← first_all) (omega (arith, first_within (i + 1) (steps p) (omega arith)))

    -- what is left of the text from step i on
    pub left_all : text_of ws p ≡ spell (steps_from ws p 0 (steps p - 0))
    unfolding text_of
    left_all = rw sub-zero

    pub left_here : (i n : ℕ) → i < n → length (spell (steps_from ws p i (n - i))) ≡ length (slashes (axis p i)) + length (word_of ws (label p i)) + length (spell (steps_from ws p (i + 1) (n - (i + 1))))
    left_here i n h =
        let e : n - i ≡ suc (n - (i + 1)) = omega arith in
        rw (e, left-cons i (n - (i + 1)), length-append, length-step, add-one i)

    pub left_none : (i n : ℕ) → n ≤ i → length (spell (steps_from ws p i (n - i))) ≡ 0
    unfolding steps_from spell
    left_none i n h =
        let e : n - i ≡ 0 = omega arith in
        rw e
