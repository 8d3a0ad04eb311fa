-- Bits16 that are written read back the same, and lines that are read are written back unchanged.
use Prim.Native.Nat.{ℕ, ◌+◌, ◌-◌, ◌*◌, ◌/◌, ◌%◌, ◌^◌, ◌<◌, ◌≤◌}
use mathlib.Core.Path.{◌≡◌, ◌∙◌}
use mathlib.Core.List.{List}
use native.Mathlib.Nat.{add-zero}
use native.Mathlib.Decide.{ℕ_discrete}
use native.Mathlib.Omega.{arith}
use lib.Dec.{lit<}
use lib.ListN.{length, get_or}
use lib.Seq.{ext_get_or}
use Rattle.tables.specs.Limits.{word_limit}
use Rattle.selection.proofs.Lists.{length-tab, get_or-tab}
use Rattle.text_digits.specs.Digits.{digit_of, word_at, words_of, byte_at, line_of, Digits}
use Rattle.text_digits.proofs.Digits.{digit_byte, byte_digit}

pub length-line_of : (ws : List ℕ) → length (line_of ws) ≡ 4 * length ws
unfolding line_of
length-line_of ws = length-tab (byte_at ws) (4 * length ws)

pub length-words_of : (s : List ℕ) → length (words_of s) ≡ length s / 4
unfolding words_of
length-words_of s = length-tab (word_at s) (length s / 4)

-- digit j of word k stands at 4 k + j of its line
digit_there : (ws : List ℕ) (k j : ℕ) → k < length ws → j < 4 → digit_of (get_or (line_of ws) (4 * k + j) 0) ≡ get_or ws k 0 / 16 ^ (3 - j) % 16
unfolding line_of byte_at
digit_there ws k j h l =
    let at : (4 * k + j) / 4 ≡ k = omega arith in
    let in-word : (4 * k + j) % 4 ≡ j = omega arith in
    rw (get_or-tab (byte_at ws) (4 * length ws) (4 * k + j) (omega arith), at, in-word)
    (digit_byte (get_or ws k 0 / 16 ^ (3 - j) % 16) (omega arith))

-- a word is put together from its digits, and taken apart into them
tens : (w : ℕ) → w / 256 ≡ w / 16 / 16
tens w = omega arith

hundreds : (w : ℕ) → w / 4096 ≡ w / 16 / 16 / 16
hundreds w = omega arith

word_sum : (w : ℕ) → w < word_limit → w / 4096 % 16 * 4096 + w / 256 % 16 * 256 + w / 16 % 16 * 16 + w / 1 % 16 ≡ w
word_sum w h = rw (tens w, hundreds w) (omega arith)

-- written words read back the same
module _ (ws : List ℕ) (small : (k : ℕ) → get_or ws k 0 < word_limit) where
  word_back : (k : ℕ) → k < length ws → get_or (words_of (line_of ws)) k 0 ≡ get_or ws k 0
  unfolding words_of word_at
  word_back k h =
      let long : length (line_of ws) / 4 ≡ length ws = rw (length-line_of ws) (omega arith) in
      let first = rw add-zero at (digit_there ws k 0 h (lit< tt)) in
      rw (long, get_or-tab (word_at (line_of ws)) (length ws) k h, first, digit_there ws k 1 h (lit< tt), digit_there ws k 2 h (lit< tt), digit_there ws k 3 h (lit< tt))
      (word_sum (get_or ws k 0) (small k))

  pub words_return : words_of (line_of ws) ≡ ws
  words_return =
      let long : length (words_of (line_of ws)) ≡ length ws = length-words_of (line_of ws) ∙ rw (length-line_of ws) (omega arith) in
      ext_get_or 0 (words_of (line_of ws)) ws long (λ k h. word_back k (rw long at h))

-- digit j of four, joined
module _ (a b c d : ℕ) (la : a ≤ 15) (lb : b ≤ 15) (lc : c ≤ 15) (ld : d ≤ 15) where
  abbrev joined : ℕ
  joined = a * 4096 + b * 256 + c * 16 + d

  joined_first : joined / 4096 % 16 ≡ a
  joined_first = omega arith

  joined_second : joined / 256 % 16 ≡ b
  joined_second = omega arith

  joined_third : joined / 16 % 16 ≡ c
  joined_third = omega arith

  joined-last : joined / 1 % 16 ≡ d
  joined-last = omega arith

-- lines that are read are written back unchanged
module _ (s : List ℕ) (digits : Digits s) (whole : length s % 4 ≡ 0) where
  value : (i : ℕ) → i < length s → digit_of (get_or s i 0) ≤ 15
  value = digits.all

  -- digit j of word k is the value of character 4 k + j
  digit_back : (k j : ℕ) → k < length s / 4 → j < 4 → word_at s k / 16 ^ (3 - j) % 16 ≡ digit_of (get_or s (4 * k + j) 0)
  unfolding word_at
  digit_back k j h l = go (ℕ_discrete j 0) (ℕ_discrete j 1) (ℕ_discrete j 2)
    where
      a : digit_of (get_or s (4 * k) 0) ≤ 15
      a = value (4 * k) (omega arith)

      b : digit_of (get_or s (4 * k + 1) 0) ≤ 15
      b = value (4 * k + 1) (omega arith)

      c : digit_of (get_or s (4 * k + 2) 0) ≤ 15
      c = value (4 * k + 2) (omega arith)

      d : digit_of (get_or s (4 * k + 3) 0) ≤ 15
      d = value (4 * k + 3) (omega arith)

      go : Dec (j ≡ 0) → Dec (j ≡ 1) → Dec (j ≡ 2) → word_at s k / 16 ^ (3 - j) % 16 ≡ digit_of (get_or s (4 * k + j) 0)
      go (yes e) y z = rw (e, add-zero) (joined_first _ _ _ _ a b c d)
      go (no x) (yes e) z = rw e (joined_second _ _ _ _ a b c d)
      go (no x) (no y) (yes e) = rw e (joined_third _ _ _ _ a b c d)
      go (no x) (no y) (no z) =
          let e : j ≡ 3 = omega arith in
          rw e (joined-last _ _ _ _ a b c d)

  byte_back : (i : ℕ) → i < length s → get_or (line_of (words_of s)) i 0 ≡ get_or s i 0
  unfolding line_of words_of byte_at
  byte_back i h =
      let there : i ≡ 4 * (i / 4) + i % 4 = omega arith in
      rw (get_or-tab (byte_at (words_of s)) (4 * length (words_of s)) i (rw (length-words_of s) (omega arith)), get_or-tab (word_at s) (length s / 4) (i / 4) (omega arith), digit_back (i / 4) (i % 4) (omega arith) (omega arith), ← there)
      (byte_digit (get_or s i 0) (value i h))

  pub line_returns : line_of (words_of s) ≡ s
  line_returns =
      let long : length (line_of (words_of s)) ≡ length s = length-line_of (words_of s) ∙ rw (length-words_of s) (omega arith) in
      ext_get_or 0 (line_of (words_of s)) s long (λ i h. byte_back i (rw long at h))
