-- A loop that makes a check at i = 0, 1, .. below n: what is left of `each` computes the same as the whole.
use Prim.Native.Nat.{ℕ, suc, ◌+◌, ◌-◌, ◌<◌, ◌≤◌}
use mathlib.Core.Path.{◌≡◌, sym, ◌∙◌}
use native.Mathlib.Nat.{sub-zero}
use native.Mathlib.Numerals.{add-one}
use native.Mathlib.Omega.{arith}
use Rattle.tables.specs.declared.refusal.Refusal.{Refusal}
use Rattle.tables.specs.Checks.{Checked}
use Rattle.std.specs.Prelude.{Ok, Err}
use Rattle.tables.specs.Checks.{Fine}
use Rattle.tables.specs.Checks.{each, ◌then◌}

-- `whole` is what the loop answers: at i the rest computes it
module _ (check : ℕ → Checked) (n : ℕ) where
  pub each_start : each check 0 n ≡ each check 0 (n - 0)
  each_start = rw sub-zero

  each_here : (i : ℕ) → i < n → each check i (n - i) ≡ (check i then each check (i + 1) (n - (i + 1)))
  unfolding each
  each_here i h =
      let e : n - i ≡ suc (n - (i + 1)) = omega arith in
      rw (e, add-one)

  module _ {whole : Checked} (i : ℕ) (inv : whole ≡ each check i (n - i)) where
    pub each_on : i < n → check i ≡ Fine → whole ≡ each check (i + 1) (n - (i + 1))
    each_on h e = inv ∙ each_here i h ∙ rw e

    pub each_off : {r : Refusal} {answer : Checked} → i < n → check i ≡ Err r → answer ≡ Err r → answer ≡ whole
    each_off h e a = a ∙ sym (inv ∙ each_here i h ∙ rw e)

    pub each_end : n ≤ i → Fine ≡ whole
    unfolding each
    each_end h =
        let e : n - i ≡ 0 = omega arith in
        sym (inv ∙ rw e)
