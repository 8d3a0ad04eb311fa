-- Two rising rows of the same numbers are one row.
use Prim.Native.Nat.{ℕ, zero, suc, ◌<◌, ◌≤◌}
use mathlib.Core.Path.{◌≡◌, sym}
use native.Mathlib.Decide.{dec_lt}
use native.Mathlib.Nat.{not-suc-le-zero}
use native.Mathlib.Omega.{arith}

-- the first n of a row rise, and are all the numbers of a set
pub record Rises (set : ℕ → Type 0) (row : ℕ → ℕ) (n : ℕ) : Type 0 where
  pub only : (k : ℕ) → k < n → set (row k)
  pub every : (v : ℕ) → set v → (k : ℕ) × (k < n) × (row k ≡ v)
  pub rising : (j k : ℕ) → j < k → k < n → row j < row k

-- of two that agree before k, the second has a number at k too, and no greater one
next_low : {set : ℕ → Type 0} {a b : ℕ → ℕ} {m n : ℕ} → Rises set a m → Rises set b n → (k : ℕ) → ((j : ℕ) → j < k → a j ≡ b j) → k < m → (k < n) × (b k ≤ a k)
next_low {a} {b} {n} x y k before h =
    let (i, l, e) = y.every (a k) (x.only k h) in
    go i l e (dec_lt i k) (dec_lt k i)
  where
    go : (i : ℕ) → i < n → b i ≡ a k → Dec (i < k) → Dec (k < i) → (k < n) × (b k ≤ a k)
    go i l e (yes q) r = absurd (omega (arith, before i q, x.rising i k q h))
    go i l e (no q) (yes r) = omega (arith, y.rising k i r l)
    go i l e (no q) (no r) =
        let same : i ≡ k = omega arith in
        let here : b k ≡ a k = rw same at e in
        omega arith

-- so they agree at every place of the first
agree : {set : ℕ → Type 0} {a b : ℕ → ℕ} {m n : ℕ} → Rises set a m → Rises set b n → (c k : ℕ) → k < c → k < m → (k < n) × (a k ≡ b k)
agree x y zero k h l = absurd (not-suc-le-zero h)
agree {a} {b} x y (suc c) k h l =
    let before : (j : ℕ) → j < k → a j ≡ b j = λ j q. (agree x y c j (omega arith) (omega arith)).1 in
    let low = next_low x y k before l in
    let high = next_low y x k (λ j q. sym (before j q)) low.0 in
    (low.0, omega arith)

-- two rising rows of one set have the same numbers
pub rises_one : {set : ℕ → Type 0} {a b : ℕ → ℕ} {m n : ℕ} → Rises set a m → Rises set b n → (k : ℕ) → k < m → a k ≡ b k
rises_one x y k h = (agree x y (suc k) k (omega arith) h).1

rises_most : {set : ℕ → Type 0} {a b : ℕ → ℕ} {m n : ℕ} → Rises set a m → Rises set b n → m ≤ n
rises_most {m} {n} x y = go (dec_lt n m)
  where
    go : Dec (n < m) → m ≤ n
    go (yes h) = absurd (omega (arith, (agree x y (suc n) n (omega arith) h).0))
    go (no l) = omega arith

-- and equally many
pub rises_many : {set : ℕ → Type 0} {a b : ℕ → ℕ} {m n : ℕ} → Rises set a m → Rises set b n → m ≡ n
rises_many x y = omega (arith, rises_most x y, rises_most y x)
