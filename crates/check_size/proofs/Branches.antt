-- The branches of the code, held against those of the definitions.
use Prim.Native.Nat.{ℕ, ◌/◌, ◌%◌, ◌<◌, ◌≤◌}
use mathlib.Core.Path.{◌≡◌}
use borrow.Author.Tests.{eq-eqb, ne_eqb, lt-ltb, le-leb, lt-leb}
use native.Mathlib.Nat.{pos_of_ne-zero}
use Rattle.tables.specs.Checks.{Checked}
use Rattle.tables.specs.Checks.{Fine}
use Rattle.tables.specs.Checks.{refuse, size_check, output_check}

module _ {answer : Checked} (n limit table : ℕ) where
  pub size_none : answer ≡ refuse 1 table 0 → n ≡ 0 → answer ≡ size_check n limit table
  unfolding size_check
  size_none e z = rw z e

  pub size_odd : answer ≡ refuse 1 table 0 → (n ≡ 0 → ⊥) → (n % 2 ≡ 0 → ⊥) → answer ≡ size_check n limit table
  unfolding size_check
  size_odd e some odd = rw (lt-ltb 0 n (pos_of_ne-zero some), ne_eqb (n % 2) 0 odd) e

  pub size-over : answer ≡ refuse 2 table 0 → (n ≡ 0 → ⊥) → n % 2 ≡ 0 → limit < n / 2 → answer ≡ size_check n limit table
  unfolding size_check
  size-over e some even over = rw (lt-ltb 0 n (pos_of_ne-zero some), eq-eqb (n % 2) 0 even, lt-leb (n / 2) limit over) e

module _ (n limit table : ℕ) where
  pub size_fine : (n ≡ 0 → ⊥) → n % 2 ≡ 0 → n / 2 ≤ limit → Fine ≡ size_check n limit table
  unfolding size_check
  size_fine some even within = rw (lt-ltb 0 n (pos_of_ne-zero some), eq-eqb (n % 2) 0 even, le-leb (n / 2) limit within)

module _ (wanted have : ℕ) where
  pub output_short : {answer : Checked} → answer ≡ refuse 7 4 0 → have < wanted → answer ≡ output_check wanted have
  unfolding output_check
  output_short e h = rw (lt-leb wanted have h) e

  pub output_long : wanted ≤ have → Fine ≡ output_check wanted have
  unfolding output_check
  output_long h = rw (le-leb wanted have h)
