-- What is left of a text decides whether it is a name.
use Prim.Native.Nat.{ℕ, suc, ◌+◌, ◌≤◌, ◌<◌}
use mathlib.Core.Path.{◌≡◌, refl, sym, ◌∙◌}
use mathlib.Core.Bool.{Bool, true, false, ◌&&◌, not, false≢true}
use mathlib.Core.List.{List, [], ◌∷◌}
use native.Mathlib.Numerals.{add-one}
use lib.Dec.{eqb}
use lib.ListN.{length, get_or, drop, drop_of_length-le}
use lib.Seq.{drop-cons}
use Rattle.selection.proofs.Runs.{both}
use Rattle.text_names.specs.Letters.{colon, between, start_char, name_char, starts, goes, all_go, name}

-- a byte that may start a name may continue it
pub starts-goes : (c : ℕ) → starts c ≡ true → goes c ≡ true
unfolding starts goes name_char
starts-goes c e = both (start_char c) (not (eqb c colon)) e (λ h k. rw (h, k))

-- a name begins with a byte that may start one; outside a text stands none
pub name_none : (s : List ℕ) → starts (get_or s 0 0) ≡ false → false ≡ name s
unfolding name
name_none [] e = refl
name_none (c ∷ s) e = rw e

pub name_start : (s : List ℕ) → starts (get_or s 0 0) ≡ true → name s ≡ all_go (drop 1 s)
unfolding name starts start_char between
name_start [] e = absurd (false≢true e)
name_start (c ∷ s) e = rw e

module _ (s : List ℕ) (i : ℕ) {whole : Bool} (w : whole ≡ all_go (drop i s)) where
  module _ (h : i < length s) {b : Bool} (p : b ≡ goes (get_or s i 0)) where
    step : whole ≡ (b && all_go (drop (suc i) s))
    unfolding all_go
    step = w ∙ rw (drop-cons s i 0 h, p)

    pub go_on : b ≡ true → whole ≡ all_go (drop (i + 1) s)
    go_on e = step ∙ rw (e, add-one)

    pub go_off : b ≡ false → false ≡ whole
    go_off e = sym (step ∙ rw e)

  pub go_end : length s ≤ i → true ≡ whole
  unfolding all_go
  go_end h = sym (w ∙ rw (drop_of_length-le s {i = i} h))
