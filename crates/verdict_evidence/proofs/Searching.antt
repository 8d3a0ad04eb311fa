-- A search for the first number: what is left of the numbers decides it.
use Prim.Native.Nat.{ℕ, suc, ◌+◌, ◌-◌, ◌<◌, ◌≤◌}
use mathlib.Core.Path.{◌≡◌, refl, sym, ◌∙◌}
use mathlib.Core.Bool.{Bool, true, false}
use native.Mathlib.Nat.{sub-zero}
use native.Mathlib.Numerals.{add-one}
use native.Mathlib.Omega.{arith}
use Rattle.verdict_evidence.specs.Finding.{first_from, first_of}

module _ (f : ℕ → Bool) (n : ℕ) where
  pub first_start : first_of f n ≡ first_from f 0 (n - 0)
  unfolding first_of
  first_start = rw (sub-zero n) refl

  module _ (v : ℕ) (e : first_of f n ≡ first_from f v (n - v)) where
    pub first_found : v < n → {b : Bool} → b ≡ f v → b ≡ true → v ≡ first_of f n
    unfolding first_from
    first_found h is so =
        let more : n - v ≡ suc (n - (v + 1)) = omega arith in
        let here : f v ≡ true = sym is ∙ so in
        sym (e ∙ rw (more, here))

    pub first_on : v < n → {b : Bool} → b ≡ f v → b ≡ false → first_of f n ≡ first_from f (v + 1) (n - (v + 1))
    unfolding first_from
    first_on h is not =
        let more : n - v ≡ suc (n - (v + 1)) = omega arith in
        let here : f v ≡ false = sym is ∙ not in
        e ∙ rw (more, here, add-one)

    pub first_none : n ≤ v → v ≤ n → n ≡ first_of f n
    unfolding first_from
    first_none h k =
        let none : n - v ≡ 0 = omega arith in
        let end : v ≡ n = omega arith in
        sym (e ∙ rw none end)
