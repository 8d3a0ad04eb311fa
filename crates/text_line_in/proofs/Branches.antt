-- The branches of the code on a line and on its characters, held against the definitions.
use Prim.Native.Nat.{ℕ, ◌+◌, ◌*◌, ◌%◌, ◌<◌, ◌≤◌}
use mathlib.Core.Path.{◌≡◌}
use mathlib.Core.List.{List}
use native.Mathlib.Nat.{pos_of_ne-zero}
use lib.ListN.{length, get_or}
use borrow.Author.Tests.{lt-ltb, le-leb, lt-leb, ne_eqb, eq-eqb}
use Rattle.tables.specs.Limits.{digit_limit}
use Rattle.tables.specs.Checks.{refuse, each, Checked, Fine}
use Rattle.text_digits.specs.Digits.{digit_of, word_at}
use Rattle.text_line_in.specs.Lines.{character_check, line_check}

-- the branches on a line's length
module _ {answer : Checked} (s : List ℕ) (line : ℕ) where
  pub line_none : answer ≡ refuse 13 6 line → length s ≡ 0 → answer ≡ line_check s line
  unfolding line_check
  line_none e z = rw z e

  pub line_odd : answer ≡ refuse 13 6 line → (length s ≡ 0 → ⊥) → (length s % 4 ≡ 0 → ⊥) → answer ≡ line_check s line
  unfolding line_check
  line_odd e n o = rw (lt-ltb 0 (length s) (pos_of_ne-zero n), ne_eqb (length s % 4) 0 o) e

  pub line_long : answer ≡ refuse 13 6 line → (length s ≡ 0 → ⊥) → length s % 4 ≡ 0 → digit_limit < length s → answer ≡ line_check s line
  unfolding line_check
  line_long e n o l = rw (lt-ltb 0 (length s) (pos_of_ne-zero n), eq-eqb (length s % 4) 0 o, lt-leb (length s) digit_limit l) e

  pub line_rest : answer ≡ each (character_check s line) 0 (length s) → (length s ≡ 0 → ⊥) → length s % 4 ≡ 0 → length s ≤ digit_limit → answer ≡ line_check s line
  unfolding line_check
  line_rest e n o l = rw (lt-ltb 0 (length s) (pos_of_ne-zero n), eq-eqb (length s % 4) 0 o, le-leb (length s) digit_limit l) e

-- one character of a line
module _ (s : List ℕ) (line i : ℕ) {c d : ℕ} (is : c ≡ get_or s i 0) (value : d ≡ digit_of c) where
  pub character_fine : d ≤ 15 → character_check s line i ≡ Fine
  unfolding character_check
  character_fine h = rw (← is, ← value, le-leb d 15 h)

  pub character_other : 15 < d → character_check s line i ≡ refuse 13 6 line
  unfolding character_check
  character_other h = rw (← is, ← value, lt-leb d 15 h)

pub word_joined : (s : List ℕ) (k : ℕ) {a b c d w : ℕ} → a ≡ digit_of (get_or s (4 * k) 0) → b ≡ digit_of (get_or s (4 * k + 1) 0) → c ≡ digit_of (get_or s (4 * k + 2) 0) → d ≡ digit_of (get_or s (4 * k + 3) 0) →
    w ≡ a * 4096 + b * 256 + c * 16 + d → w ≡ word_at s k
unfolding word_at
word_joined s k p q r t e = rw (← p, ← q, ← r, ← t) e
