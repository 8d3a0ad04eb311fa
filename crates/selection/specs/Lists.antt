-- Lists made by counting upwards, and what holds below a number.
use Rattle.std.specs.Prelude.{ℕ, zero, suc, Bool, false, ◌||◌, cond, List, [], ◌∷◌, ◌++◌, get_or}

-- f 0, f 1, .., n of them
unfoldable pub tab : (ℕ → ℕ) → ℕ → List ℕ
tab f zero = []
tab f (suc n) = tab f n ++ (f n ∷ [])

-- the first n of a list, 0 where it is shorter
unfoldable pub front : ℕ → List ℕ → List ℕ
front n xs = tab (λ i. get_or xs i 0) n

-- the numbers below n at which f holds, rising
unfoldable pub rising : (ℕ → Bool) → ℕ → List ℕ
rising f zero = []
rising f (suc n) = cond (f n) (rising f n ++ (n ∷ [])) (rising f n)

-- how many numbers below n there are at which f holds
unfoldable pub count : (ℕ → Bool) → ℕ → ℕ
count f zero = 0
count f (suc n) = cond (f n) (suc (count f n)) (count f n)

-- f holds at some number below n
unfoldable pub somewhere : (ℕ → Bool) → ℕ → Bool
somewhere f zero = false
somewhere f (suc n) = somewhere f n || f n
