-- Whether two texts are the same, byte by byte.
use Prim.Native.Nat.{ℕ, suc, ◌+◌, ◌≤◌, ◌<◌}
use mathlib.Core.Path.{◌≡◌, refl, sym, ◌∙◌, ap}
use mathlib.Core.Bool.{Bool, true, false, ◌&&◌}
use mathlib.Core.List.{List, [], ◌∷◌}
use native.Mathlib.Numerals.{add-one}
use native.Mathlib.Omega.{arith}
use lib.Dec.{eqb}
use lib.ListN.{length, get_or, drop, drop_of_length-le}
use lib.Seq.{drop-cons}
use borrow.Author.Tests.{eq-eqb, ne_eqb, eqb-true}
use Rattle.selection.proofs.Runs.{both}
use Rattle.text_names.specs.Names.{same}

pub same_refl : (s : List ℕ) → same s s ≡ true
unfolding same
same_refl [] = refl
same_refl (c ∷ s) = rw (eq-eqb c c refl, same_refl s)

pub same_eq : (s t : List ℕ) → same s t ≡ true → s ≡ t
unfolding same
same_eq [] [] e = refl
same_eq [] (d ∷ t) e = let z : ◌≡◌ {A = ℕ} 0 1 = cc in absurd (omega arith)
same_eq (c ∷ s) [] e = let z : ◌≡◌ {A = ℕ} 0 1 = cc in absurd (omega arith)
same_eq (c ∷ s) (d ∷ t) e = both (eqb c d) (same s t) e (λ h k. let p = eqb-true c d h in let q = same_eq s t k in (cc))

-- texts that are not equal are not the same
pub same_not : (s t : List ℕ) → (s ≡ t → ⊥) → same s t ≡ false
same_not s t n = go (same s t) refl
  where
    go : (b : Bool) → same s t ≡ b → same s t ≡ false
    go true e = absurd (n (same_eq s t e))
    go false e = e

pub same_apart : (s t : List ℕ) → (length s ≡ length t → ⊥) → false ≡ same s t
same_apart s t n = sym (same_not s t (λ e. n (ap length e)))

module _ (s t : List ℕ) (long : length s ≡ length t) (i : ℕ) where
  module _ (h : i < length s) where
    step : same (drop i s) (drop i t) ≡ (eqb (get_or s i 0) (get_or t i 0) && same (drop (suc i) s) (drop (suc i) t))
    unfolding same
    step = rw (drop-cons s i 0 h, drop-cons t i 0 (omega (arith, long)))

    pub same-on : {whole : Bool} → whole ≡ same (drop i s) (drop i t) → {a b : ℕ} → a ≡ get_or s i 0 → b ≡ get_or t i 0 → a ≡ b
        → whole ≡ same (drop (i + 1) s) (drop (i + 1) t)
    same-on w p q e = w ∙ step ∙ rw (eq-eqb (get_or s i 0) (get_or t i 0) (sym p ∙ e ∙ q), add-one)

    pub same_off : {whole : Bool} → whole ≡ same (drop i s) (drop i t) → {a b : ℕ} → a ≡ get_or s i 0 → b ≡ get_or t i 0 → (a ≡ b → ⊥)
        → false ≡ whole
    same_off w p q n = sym (w ∙ step ∙ rw (ne_eqb (get_or s i 0) (get_or t i 0) (λ e. n (p ∙ e ∙ sym q))))

  pub same_end : {whole : Bool} → whole ≡ same (drop i s) (drop i t) → length s ≤ i → true ≡ whole
  unfolding same
  same_end w h = sym (w ∙ rw (drop_of_length-le s {i = i} h, drop_of_length-le t {i = i} (omega (arith, long))))
