-- A test that holds somewhere below a number.
use Prim.Native.Nat.{ℕ, zero, suc, ◌<◌}
use mathlib.Core.Path.{◌≡◌, refl, sym, ◌∙◌}
use mathlib.Core.Bool.{Bool, true, false, false≢true, or-true}
use native.Mathlib.Nat.{not-suc-le-zero}
use native.Mathlib.Omega.{arith}
use Rattle.selection.specs.Lists.{somewhere}
use Rattle.selection.proofs.Lists.{below_suc}
use Rattle.selection.proofs.Runs.{either}

-- a number below n at which f holds
pub record Somewhere (f : ℕ → Bool) (n : ℕ) : Type 0 where
  pub at : ℕ
  pub below : at < n
  pub holds : f at ≡ true

-- `somewhere` finds one exactly if there is one
pub of-somewhere : (f : ℕ → Bool) (n : ℕ) → somewhere f n ≡ true → Somewhere f n
unfolding somewhere
of-somewhere f zero e = absurd (false≢true e)
of-somewhere f (suc n) e =
    either (somewhere f n) (f n) e
    (λ before. let s : Somewhere f n = of-somewhere f n before in record { at = s.at; below = omega arith; holds = s.holds })
    (λ here. record { at = n; below = omega arith; holds = here })

pub to_somewhere : (f : ℕ → Bool) (n k : ℕ) → k < n → f k ≡ true → somewhere f n ≡ true
unfolding somewhere
to_somewhere f zero k h e = absurd (not-suc-le-zero h)
to_somewhere f (suc n) k h e = below_suc k n h
    (λ less. rw (to_somewhere f n k less e))
    (λ same. rw (← same, e, or-true))

-- where a test holds nowhere, it is found nowhere
pub nowhere : (f : ℕ → Bool) (n : ℕ) → ((i : ℕ) → i < n → f i ≡ false) → somewhere f n ≡ false
nowhere f n none = go (somewhere f n) refl
  where
    go : (b : Bool) → somewhere f n ≡ b → b ≡ false
    go true e =
        let s : Somewhere f n = of-somewhere f n e in
        absurd (false≢true (sym (none s.at s.below) ∙ s.holds))
    go false e = refl

-- tests that agree below n are found alike
pub somewhere-same : (f g : ℕ → Bool) (n : ℕ) → ((i : ℕ) → i < n → f i ≡ g i) → somewhere f n ≡ somewhere g n
unfolding somewhere
somewhere-same f g zero same = refl
somewhere-same f g (suc n) same = rw (somewhere-same f g n (λ i h. same i (omega arith)), same n (omega arith))
