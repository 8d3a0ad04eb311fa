-- The lines that are left decide a name's number.
use Prim.Native.Nat.{ℕ, suc, ◌+◌, ◌≤◌, ◌<◌}
use mathlib.Core.Path.{◌≡◌, refl, sym, ◌∙◌}
use mathlib.Core.Bool.{Bool, true, false, cond}
use mathlib.Core.List.{List}
use native.Mathlib.Numerals.{add-one}
use native.Mathlib.Omega.{arith}
use lib.ListN.{length, drop, drop_of_length-le}
use Rattle.text_parts.specs.Next.{next}
use Rattle.text_parts.proofs.Finding.{next-least, next_most}
use Rattle.text_names.specs.Names.{feed, lines, same, place_from, number_of}
use Rattle.text_names.specs.Entries.{piece}
use Rattle.text_names.proofs.Lines.{line_cut, line_none}

pub number_start : (l w : List ℕ) → number_of (lines l) w ≡ place_from (0 + 1) (lines (drop 0 l)) w
number_start l w = refl

module _ (l w : List ℕ) (from k : ℕ) {whole : ℕ} (e : whole ≡ place_from (k + 1) (lines (drop from l)) w) where
  module _ (h : from ≤ length l) {to : ℕ} (is : to ≡ next feed l from) where
    pub number_open : length l ≤ to → 0 ≡ whole
    unfolding place_from
    number_open n = sym (e ∙ rw (line_none l from h is n))

    module _ (n : to < length l) {b : Bool} (eq : b ≡ same (piece l from to) w) where
      step : whole ≡ cond b (k + 1) (place_from (suc (k + 1)) (lines (drop (to + 1) l)) w)
      unfolding place_from
      step = e ∙ rw (line_cut l from h is n, eq)

      pub number_here : b ≡ true → k + 1 ≡ whole
      number_here t = sym (step ∙ rw t)

      pub number-on : b ≡ false → whole ≡ place_from (k + 1 + 1) (lines (drop (to + 1) l)) w
      number-on t = step ∙ rw (t, add-one (k + 1))

  pub number_end : length l ≤ from → 0 ≡ whole
  unfolding place_from lines
  number_end h = sym (e ∙ rw (drop_of_length-le l {i = from} h))

-- the next line feed stands behind the place, and within the list or at its end
pub next-within : (l : List ℕ) (from : ℕ) → from ≤ length l → {to : ℕ} → to ≡ next feed l from → (from ≤ to) × (to ≤ length l)
next-within l from h is = (omega (arith, is, next-least feed l from), omega (arith, is, next_most feed l from h))
