-- The steps that are left of a text, from the slash at a place on.
use Prim.Native.Nat.{ℕ, suc, ◌+◌, ◌-◌, ◌≤◌, ◌<◌}
use mathlib.Core.Path.{◌≡◌, refl, sym, ◌∙◌, ap}
use mathlib.Core.Bool.{true, false}
use mathlib.Core.List.{List, [], ◌∷◌, ◌++◌}
use native.Mathlib.Numerals.{add-one}
use native.Mathlib.Omega.{arith}
use lib.Dec.{eqb}
use lib.ListN.{length, get_or, take, drop, length-drop, drop_of_length-le}
use lib.Seq.{drop-cons, take-suc}
use borrow.Author.Tests.{ne_eqb}
use Rattle.text_names.specs.Entries.{piece}
use Rattle.text_pattern.specs.Texts.{Step, step}
use Rattle.text_pattern.specs.Scan.{right_text}
use Rattle.text_pattern.specs.Meaning.{parts, behind, steps_in, steps_of}
use Rattle.text_pattern.proofs.Spelled.{Whole, first, of_steps}
use Rattle.text_pattern.proofs.Scanning.{scan_right}
use Rattle.text_pattern.proofs.Steps.{Rest, more, rest_none}
use Rattle.text_pattern_in.specs.Walk.{word_from, word_to, word_at, child_axis, axis_at}
use Rattle.text_pattern_in.proofs.Walking.{from_least, to_least, to_within, next_rest, next-steps}

-- the steps from the slash at i on, the first of them step k
abbrev pub left : List ℕ → ℕ → ℕ → List Step
left s i k = steps_in (child_axis k) (behind (parts (drop i s)))

-- a right text begins with a slash
whole_rest : {xs : List Step} {t : List ℕ} → Whole xs t → Rest t
whole_rest (first word later) = more _

start_rest : (s : List ℕ) → right_text s ≡ true → Rest (drop 0 s)
start_rest s e =
    let r = scan_right s e in
    rw r.spelled (whole_rest (of_steps r.steps r.right))

left_start : (s : List ℕ) → drop 0 (steps_of s) ≡ left s 0 0
unfolding steps_of child_axis
left_start s = refl

-- of a list: what stands first in its rest
module _ (xs : List Step) (k : ℕ) {x : Step} {rest : List Step} (e : drop k xs ≡ x ∷ rest) where
  pub one_within : k < length xs
  one_within =
      let long : length xs - k ≡ suc (length rest) = sym (length-drop k xs) ∙ ap length e in
      omega (arith, long)

  front : x ∷ rest ≡ get_or xs k (step 0 []) ∷ drop (suc k) xs
  front = sym e ∙ drop-cons xs k (step 0 []) one_within

  pub one_rest : drop (k + 1) xs ≡ rest
  one_rest =
      let f = front in
      let same : drop (suc k) xs ≡ rest = cc in
      rw (add-one k) same

  pub one_more : take (k + 1) xs ≡ take k xs ++ (x ∷ [])
  one_more =
      let f = front in
      let same : get_or xs k (step 0 []) ≡ x = cc in
      ap (λ (n : ℕ). take n xs) (add-one k) ∙ take-suc xs k (step 0 []) one_within ∙ rw same

module _ (s : List ℕ) (i k : ℕ) where
  left-next : i < length s → Rest (drop i s) → left s i k ≡ step (axis_at s i k) (word_at s i) ∷ left s (word_to s i) (k + 1)
  unfolding axis_at child_axis
  left-next h r =
      let later : eqb (k + 1) 0 ≡ false = ne_eqb (k + 1) 0 (λ z. omega (arith, z)) in
      next-steps s i h r (child_axis k) ∙ rw later

  pub left_end : length s ≤ i → left s i k ≡ []
  left_end h = rw (drop_of_length-le s {i = i} h) (rest_none (child_axis k))

-- the word of a step lies within the text
pub word_within : (s : List ℕ) (i : ℕ) → i < length s → {from to : ℕ} → from ≡ word_from s i → to ≡ word_to s i → (from ≤ to) × (to ≤ length s)
word_within s i h f t = (omega (arith, f, t, to_least s i h), omega (arith, t, to_within s i h))

pub word_is : (s : List ℕ) (i : ℕ) {from to : ℕ} → from ≡ word_from s i → to ≡ word_to s i → piece s from to ≡ word_at s i
unfolding word_at
word_is s i f t = rw (f, t)

-- a walk over the steps of a text: the slash of step k, or the end, stands at i
pub record At (s : List ℕ) (i k : ℕ) : Type 0 where
  pub within : i ≤ length s
  pub passed : k ≤ i
  pub some : k ≤ length (steps_of s)
  pub rest : Rest (drop i s)
  pub here : drop k (steps_of s) ≡ left s i k

pub at_start : (s : List ℕ) → right_text s ≡ true → At s 0 0
at_start s e = record { within = omega arith; passed = omega arith; some = omega arith; rest = start_rest s e; here = left_start s }

module _ {s : List ℕ} {i k : ℕ} (at : At s i k) where
  module _ (h : i < length s) where
    -- step k, and those behind it
    pub this_step : drop k (steps_of s) ≡ step (axis_at s i k) (word_at s i) ∷ left s (word_to s i) (k + 1)
    this_step = at.here ∙ left-next s i k h at.rest

    pub to_behind : i < word_to s i
    to_behind = omega (arith, from_least s i h, to_least s i h)

    pub at_next : {to : ℕ} → to ≡ word_to s i → At s to (k + 1)
    at_next e =
        rw e
        (record {
          within = to_within s i h;
          passed = omega (arith, at.passed, to_behind);
          some = omega (arith, one_within (steps_of s) k this_step);
          rest = next_rest s i h;
          here = one_rest (steps_of s) k this_step;
        })

  -- where none is left, all are counted
  pub at_end : length s ≤ i → k ≡ length (steps_of s)
  at_end h =
      let long : length (steps_of s) - k ≡ 0 = sym (length-drop k (steps_of s)) ∙ ap length (at.here ∙ left_end s i k h) in
      omega (arith, long, at.some)
