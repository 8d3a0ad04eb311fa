-- Laws of numbers in decimal: their digits from the last on, how many there are, and that no others are right.
use Prim.Native.Nat.{ℕ, zero, suc, ◌+◌, ◌-◌, ◌*◌, ◌/◌, ◌%◌, ◌<◌, ◌≤◌}
use mathlib.Core.Path.{◌≡◌, refl, sym, ap, ◌∙◌}
use mathlib.Core.List.{List, [], ◌∷◌, ◌++◌}
use native.Mathlib.Decide.{dec_lt}
use native.Mathlib.Nat.{le_trans}
use native.Mathlib.Numerals.{add-one}
use native.Mathlib.Omega.{arith}
use borrow.Author.Tests.{lt-ltb, le-ltb}
use lib.ListN.{length, length-append, get_or-append}
use lib.Seq.{get_or-append_seam}
use Rattle.tables.specs.Limits.{word_limit}
use Rattle.selection.proofs.Lists.{below_suc}
use Rattle.text_xml.specs.Decimal.{decimal_in, decimal, value_in, Decimal}

-- room for more digits than there are makes no difference
decimal_in_lem : (k m n : ℕ) → n < k → n < m → decimal_in k n ≡ decimal_in m n
unfolding decimal_in
decimal_in_lem zero m n h l = absurd (omega arith)
decimal_in_lem (suc k) zero n h l = absurd (omega arith)
decimal_in_lem (suc k) (suc m) n h l = go (dec_lt n 10) (λ s. decimal_in_lem k m (n / 10) (omega arith) (omega arith))
  where
    go : Dec (n < 10) → (10 ≤ n → decimal_in k (n / 10) ≡ decimal_in m (n / 10)) → decimal_in (suc k) n ≡ decimal_in (suc m) n
    go (yes s) tenth = rw (lt-ltb n 10 s)
    go (no s) tenth = rw (le-ltb n 10 (omega arith), tenth (omega arith))

pub decimal-small : (n : ℕ) → n < 10 → decimal n ≡ (48 + n) ∷ []
unfolding decimal decimal_in
decimal-small n h = rw (lt-ltb n 10 h)

pub decimal_more : (n : ℕ) → 10 ≤ n → decimal n ≡ decimal (n / 10) ++ ((48 + n % 10) ∷ [])
unfolding decimal decimal_in
decimal_more n h = rw (le-ltb n 10 h, decimal_in_lem n (suc (n / 10)) (n / 10) (omega arith) (omega arith))

-- what holds of one digit, and of more where it holds of a tenth, holds of all
module _ (P : ℕ → List ℕ → Type 0) (small : (n : ℕ) → n < 10 → P n ((48 + n) ∷ []))
    (more : (n : ℕ) (s : List ℕ) → 10 ≤ n → P (n / 10) s → P n (s ++ ((48 + n % 10) ∷ []))) where
  by_digits_in : (k n : ℕ) → n < k → P n (decimal n)
  by_digits_in zero n h = absurd (omega arith)
  by_digits_in (suc k) n h = go (dec_lt n 10) (λ s. by_digits_in k (n / 10) (omega arith))
    where
      go : Dec (n < 10) → (10 ≤ n → P (n / 10) (decimal (n / 10))) → P n (decimal n)
      go (yes s) tenth = rw (decimal-small n s) (small n s)
      go (no s) tenth = let s : 10 ≤ n = omega arith in rw (decimal_more n s) (more n (decimal (n / 10)) s (tenth s))

  pub by_digits : (n : ℕ) → P n (decimal n)
  by_digits n = by_digits_in (suc n) n (omega arith)

-- how many digits there are
pub length-small : (n : ℕ) → n < 10 → length (decimal n) ≡ 1
length-small n h = rw (decimal-small n h)

pub length_more : (n : ℕ) → 10 ≤ n → length (decimal n) ≡ suc (length (decimal (n / 10)))
length_more n h = rw (decimal_more n h, length-append) (add-one _)

pub length_two : (n : ℕ) → 10 ≤ n → n < 100 → length (decimal n) ≡ 2
length_two n h l = rw (length_more n h, length-small (n / 10) (omega arith))

pub length_three : (n : ℕ) → 100 ≤ n → n < 1000 → length (decimal n) ≡ 3
length_three n h l = rw (length_more n (omega arith), length_two (n / 10) (omega arith) (omega arith))

pub length-four : (n : ℕ) → 1000 ≤ n → n < 10000 → length (decimal n) ≡ 4
length-four n h l = rw (length_more n (omega arith), length_three (n / 10) (omega arith) (omega arith))

pub length-five : (n : ℕ) → 10000 ≤ n → n < 100000 → length (decimal n) ≡ 5
length-five n h l = rw (length_more n (omega arith), length-four (n / 10) (omega arith) (omega arith))

pub length_beyond : (n : ℕ) → 100000 ≤ n → length (decimal n) ≡ length (decimal (n / 100000)) + 5
length_beyond n h =
    let tenths : n / 10 / 10 / 10 / 10 / 10 ≡ n / 100000 = omega arith in
    rw
    (length_more n (omega arith), length_more (n / 10) (omega arith), length_more (n / 10 / 10) (omega arith), length_more (n / 10 / 10 / 10) (omega arith), length_more (n / 10 / 10 / 10 / 10) (omega arith), tenths)
    (omega arith)

pub length_some : (n : ℕ) → 0 < length (decimal n)
length_some = by_digits (λ n s. 0 < length s) (λ n h. omega arith) (λ n s h some. rw length-append (omega arith))

pub length-least : (n : ℕ) → length (decimal n) ≤ n + 1
length-least = by_digits (λ n s. length s ≤ n + 1) (λ n h. omega arith) (λ n s h least. rw length-append (omega arith))

-- one digit more than a tenth has, at the most
length_most : (n k : ℕ) → length (decimal (n / 10)) ≤ k → length (decimal n) ≤ suc k
length_most n k h = go (dec_lt n 10)
  where
    go : Dec (n < 10) → length (decimal n) ≤ suc k
    go (yes s) = rw (length-small n s) (omega arith)
    go (no s) = rw (length_more n (omega arith)) (omega arith)

pub decimal_word : (n : ℕ) → n < word_limit → length (decimal n) ≤ 5
decimal_word n h = length_most n 4 (length_most _ 3 (length_most _ 2 (length_most _ 1 (rw (length-small (n / 10 / 10 / 10 / 10) (omega arith)) (omega arith)))))

-- a digit behind others
value_behind : (n : ℕ) (s : List ℕ) (c : ℕ) → value_in n (s ++ (c ∷ [])) ≡ 10 * value_in n s + (c - 48)
unfolding value_in
value_behind n [] c = refl
value_behind n (d ∷ s) c = value_behind (10 * n + (d - 48)) s c

value_least : (n : ℕ) (s : List ℕ) → n ≤ value_in n s
unfolding value_in
value_least n [] = omega arith
value_least n (d ∷ s) = le_trans (omega arith) (value_least (10 * n + (d - 48)) s)

-- a right number has a digit
right_some : (n : ℕ) (s : List ℕ) → 0 < n → Decimal n s → 0 < length s
unfolding value_in
right_some n [] h d = absurd (omega (arith, d.value))
right_some n (c ∷ s) h d = omega arith

digit_right : (c : ℕ) → 0 < c → c < 10 → Decimal c ((48 + c) ∷ [])
unfolding value_in
digit_right c h l = record {
  digits = λ i s. let e : i ≡ 0 = omega arith in rw e (omega arith);
  no_zero = λ e. omega arith;
  value = omega arith;
}

-- a digit behind a right number
behind_right : (n : ℕ) (s : List ℕ) → 0 < length s → Decimal (n / 10) s → Decimal n (s ++ ((48 + n % 10) ∷ []))
behind_right n s some d = record {
  digits = λ i h. below_suc i (length s) (rw (length-append, add-one) at h)
      (λ l. rw (get_or-append s ((48 + n % 10) ∷ []) 0 i l) (d.digits i l))
      (λ e. rw (e, get_or-append_seam s (48 + n % 10) [] 0) (omega arith));
  no_zero = λ e. d.no_zero (sym (get_or-append s ((48 + n % 10) ∷ []) 0 0 some) ∙ e);
  value = rw (value_behind 0 s (48 + n % 10), d.value) (omega arith);
}

pub decimal_right : (n : ℕ) → 0 < n → Decimal n (decimal n)
decimal_right = by_digits (λ n s. 0 < n → Decimal n s) (λ n h l. digit_right n l h)
    (λ n s h tenth l. let d = tenth (omega arith) in behind_right n s (right_some (n / 10) s (omega arith) d) d)

-- and back: the last digit taken off leaves a tenth
module _ (n : ℕ) (s : List ℕ) (c : ℕ) (d : Decimal n (s ++ (c ∷ []))) where
  last_digit : (48 ≤ c) × (c ≤ 57)
  last_digit = rw (get_or-append_seam s c [] 0) at (d.digits (length s) (rw length-append (omega arith)))

  last_value : 10 * value_in 0 s + (c - 48) ≡ n
  last_value = rw (value_behind 0 s c) at d.value

  last_right : c ≡ 48 + n % 10
  last_right = omega (arith, last_digit, last_value)

  before_right : 0 < length s → Decimal (n / 10) s
  before_right some = record {
    digits = λ i l. rw (get_or-append s (c ∷ []) 0 i l) at (d.digits i (rw length-append (omega arith)));
    no_zero = λ e. d.no_zero (get_or-append s (c ∷ []) 0 0 some ∙ e);
    value = omega (arith, last_digit, last_value);
  }

-- the first digit is no zero
right_least : (n c : ℕ) (s : List ℕ) → Decimal n (c ∷ s) → 0 < n
unfolding value_in
right_least n c s d = omega (arith, d.digits 0 (omega arith), d.no_zero, value_least (10 * 0 + (c - 48)) s, d.value)

-- what holds of no element, and of one more at the end, holds of all lists
by_last : (P : List ℕ → Type 0) → P [] → ((s : List ℕ) (c : ℕ) → P s → P (s ++ (c ∷ []))) → (s : List ℕ) → P s
by_last P none more [] = none
by_last P none more (c ∷ s) = by_last (λ r. P (c ∷ r)) (more [] c none) (λ r. more (c ∷ r)) s

-- these digits are right for no number but the one that is written so
abbrev Only : List ℕ → Type 0
Only s = (n : ℕ) → 0 < n → Decimal n s → s ≡ decimal n

pub decimal_only : (n : ℕ) (s : List ℕ) → 0 < n → Decimal n s → s ≡ decimal n
unfolding value_in
decimal_only n s = by_last Only (λ n h d. absurd (omega (arith, d.value))) go s n
  where
    go : (s : List ℕ) (c : ℕ) → Only s → Only (s ++ (c ∷ []))
    go [] c tenth n h d =
        let b = last_digit n [] c d in
        let e : c ≡ 48 + n = omega (arith, last_value n [] c d) in
        rw e (sym (decimal-small n (omega arith)))
    go (x ∷ s) c tenth n h d =
        let b = before_right n (x ∷ s) c d (omega arith) in
        let l = right_least (n / 10) x s b in
        ap (λ r. r ++ (c ∷ [])) (tenth (n / 10) l b) ∙ rw (last_right n (x ∷ s) c d) (sym (decimal_more n (omega arith)))
