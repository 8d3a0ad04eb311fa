-- Where moves stand: rows of n, one behind the other.
use Prim.Native.Nat.{ℕ, suc, ◌+◌, ◌*◌, ◌^◌, ◌<◌, ◌≤◌}
use mathlib.Core.Path.{◌≡◌, refl}
use mathlib.Core.List.{List}
use native.Mathlib.Decide.{dec_lt}
use native.Mathlib.Nat.{mul-le-mul_left, mul-le-mul_right, mul-suc, le_trans, le_of_lt}
use native.Mathlib.Numerals.{add-one}
use native.Mathlib.Omega.{arith}
use lib.ListN.{get_or}
use Rattle.tables.specs.Limits.{step_limit}
use Rattle.tables.specs.Words.{steps}
use Rattle.check_verdict.specs.Admitted.{Bounded}
use Rattle.verdict_meeting.specs.Cells.{cell_at}

module _ (n : ℕ) where
  -- the cells of a row, one after the other; behind the last of them the next row begins
  pub cell_next : (i j : ℕ) → cell_at n i (j + 1) ≡ cell_at n i j + 1
  unfolding cell_at
  cell_next i j = omega arith

  pub cell_start : (i j : ℕ) {start : ℕ} → start ≡ cell_at n i 0 → start + j ≡ cell_at n i j
  unfolding cell_at
  cell_start i j e = omega arith

  pub cell_row : (i j : ℕ) → j ≡ n → cell_at n i j ≡ cell_at n (i + 1) 0
  unfolding cell_at
  cell_row i j e = let more : n * (i + 1) ≡ n * i + n = rw (add-one i) (mul-suc n i) in omega (arith, e, more)

  cell_least : (i j : ℕ) → cell_at n i 0 ≤ cell_at n i j
  unfolding cell_at
  cell_least i j = omega arith

  -- a cell of an earlier row stands before the row
  pub cell_before : (a b i : ℕ) → b < n → a < i → cell_at n a b < cell_at n i 0
  unfolding cell_at
  cell_before a b i h l = omega (arith, mul-suc n a, mul-le-mul_left {m = suc a} {n = i} n (omega arith))

  cell_column : (i b j : ℕ) → cell_at n i b ≡ cell_at n i j → b ≡ j
  unfolding cell_at
  cell_column i b j e = omega arith

  -- no two cells stand at one place
  pub cell_row_same : (a b i j : ℕ) → b < n → j < n → cell_at n a b ≡ cell_at n i j → a ≡ i
  cell_row_same a b i j h l e = go (dec_lt a i) (dec_lt i a)
    where
      go : Dec (a < i) → Dec (i < a) → a ≡ i
      go (yes k) d = absurd (omega (arith, e, cell_before a b i h k, cell_least i j))
      go (no k) (yes q) = absurd (omega (arith, e, cell_before i j a l q, cell_least a b))
      go (no k) (no q) = omega arith

  pub cell_column_same : (a b i j : ℕ) → a ≡ i → cell_at n a b ≡ cell_at n i j → b ≡ j
  cell_column_same a b i j d e = cell_column i b j (rw d at e)

-- places are small numbers
pub product_most : (n i : ℕ) → n ≤ step_limit → i ≤ step_limit → n * i ≤ step_limit * step_limit
product_most n i h l = le_trans (mul-le-mul_left n l) (mul-le-mul_right step_limit h)

pub cells_fit : {r p : List ℕ} → Bounded r p → steps p * steps r < 2 ^ 64
cells_fit {r} {p} bounded = omega (arith, product_most (steps p) (steps r) bounded.updates bounded.reads)

module _ (n i j : ℕ) where
  pub place_is : n * i + j ≡ cell_at n i j
  unfolding cell_at
  place_is = refl

  pub place_read : (moves : List ℕ) {k m : ℕ} → k ≡ cell_at n i j → m ≡ get_or moves k 0 → m ≡ get_or moves (cell_at n i j) 0
  place_read moves d e = rw (← d) e

  module _ (h : n ≤ step_limit) (l : i < step_limit) where
    pub product_fits : n * i < 2 ^ 64
    product_fits = omega (arith, product_most n i h (le_of_lt l))

    pub place-fits : j < step_limit → n * i + j < 2 ^ 64
    place-fits k = omega (arith, product_most n i h (le_of_lt l))

    pub cell_fits : j < step_limit → cell_at n i j < 2 ^ 64
    unfolding cell_at
    cell_fits = place-fits
