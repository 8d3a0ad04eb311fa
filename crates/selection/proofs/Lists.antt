-- Laws of the lists made by counting upwards: what stands where, how long they are, and which numbers `rising` lists.
use Prim.Native.Nat.{ℕ, zero, suc, ◌+◌, ◌-◌, ◌<◌, ◌≤◌}
use mathlib.Core.Path.{◌≡◌, refl, ◌∙◌}
use mathlib.Core.Bool.{Bool, true, false, ◌&&◌, not, cond}
use mathlib.Core.List.{List, [], ◌∷◌, ◌++◌}
use native.Mathlib.Decide.{dec_lt, le_ind}
use native.Mathlib.Nat.{not-suc-le-zero, le_trans}
use native.Mathlib.Numerals.{add-one}
use native.Mathlib.Omega.{arith}
use lib.ListN.{length, take, drop, get_or, length-append, length-drop, get_or-append, drop_of_length-le}
use lib.Seq.{take-suc, take_all, get_or_at, get_or-append-add, get_or-drop}
use Rattle.selection.specs.Lists.{tab, front, rising, count}

-- what is below suc n is below n or is n
pub below_suc : {P : Type 0} (i n : ℕ) → i < suc n → (i < n → P) → (i ≡ n → P) → P
below_suc {P} i n h less same = go (dec_lt i n)
  where
    go : Dec (i < n) → P
    go (yes l) = less l
    go (no l) = same (omega arith)

pub length-tab : (f : ℕ → ℕ) (n : ℕ) → length (tab f n) ≡ n
unfolding tab
length-tab f zero = refl
length-tab f (suc n) = rw (length-append, length-tab f n) (add-one n)

-- element i is f i
pub get_or-tab : (f : ℕ → ℕ) (n i : ℕ) → i < n → get_or (tab f n) i 0 ≡ f i
unfolding tab
get_or-tab f zero i h = absurd (not-suc-le-zero h)
get_or-tab f (suc n) i h = below_suc i n h
    (λ l. get_or-append (tab f n) (f n ∷ []) 0 i (rw (length-tab f n) l) ∙ get_or-tab f n i l)
    (λ e. rw e (get_or_at (tab f n) (f n) [] 0 n (length-tab f n)))

-- with more behind it: below n, and from n on
pub get_or-tab-before : (f : ℕ → ℕ) (n : ℕ) (rest : List ℕ) (i : ℕ) → i < n → get_or (tab f n ++ rest) i 0 ≡ f i
get_or-tab-before f n rest i h = get_or-append (tab f n) rest 0 i (rw (length-tab f n) h) ∙ get_or-tab f n i h

pub get_or-tab_from : (f : ℕ → ℕ) (n : ℕ) (rest : List ℕ) (i : ℕ) → get_or (tab f n ++ rest) (n + i) 0 ≡ get_or rest i 0
get_or-tab_from f n rest i = rw (length-tab f n) at (get_or-append-add (tab f n) rest i 0)

-- a list in the place of another's first n: all behind it stays
module _ (first xs : List ℕ) (n : ℕ) (long : length first ≡ n) where
  pub get_or-behind : (i : ℕ) → n ≤ i → get_or (first ++ drop n xs) i 0 ≡ get_or xs i 0
  get_or-behind i h =
      let e : i ≡ n + (i - n) = omega arith in
      rw e ((rw long at (get_or-append-add first (drop n xs) (i - n) 0)) ∙ get_or-drop n xs (i - n) 0)

  pub length-behind : length (first ++ drop n xs) ≡ n + (length xs - n)
  length-behind = rw (length-append first (drop n xs), long, length-drop)

pub get_or-tab-behind : (f : ℕ → ℕ) (n : ℕ) (xs : List ℕ) (i : ℕ) → n ≤ i → get_or (tab f n ++ drop n xs) i 0 ≡ get_or xs i 0
get_or-tab-behind f n xs = get_or-behind (tab f n) xs n (length-tab f n)

pub length-tab-drop : (f : ℕ → ℕ) (n : ℕ) (xs : List ℕ) → n ≤ length xs → length (tab f n ++ drop n xs) ≡ length xs
length-tab-drop f n xs h = rw (length-behind (tab f n) xs n (length-tab f n)) (omega arith)

-- functions that agree below n
pub tab_ext : (f g : ℕ → ℕ) (n : ℕ) → ((i : ℕ) → i < n → f i ≡ g i) → tab f n ≡ tab g n
unfolding tab
tab_ext f g zero h = refl
tab_ext f g (suc n) h = rw (tab_ext f g n (λ i l. h i (omega arith)), h n (omega arith))

-- the front of a list that is long enough
pub front-take : (n : ℕ) (xs : List ℕ) → n ≤ length xs → front n xs ≡ take n xs
unfolding front tab
front-take zero xs h = refl
front-take (suc n) xs h = rw (take-suc xs n 0 h, ← front-take n xs (omega arith))

-- `part` in the place of what stands from n up to m: before it, in it and behind it
module _ (xs part : List ℕ) (n m : ℕ) (fills : m ≡ n + length part) where
  length_placed : length (front n xs ++ part) ≡ m
  unfolding front
  length_placed = rw (length-append, length-tab) (omega arith)

  pub get_or_placed_before : (i : ℕ) → i < n → get_or (front n xs ++ part ++ drop m xs) i 0 ≡ get_or xs i 0
  unfolding front
  get_or_placed_before i h =
      get_or-append (front n xs ++ part) (drop m xs) 0 i (rw length_placed (omega arith)) ∙ get_or-tab-before (λ k. get_or xs k 0) n part i h

  pub get_or_placed : (i : ℕ) → i < length part → get_or (front n xs ++ part ++ drop m xs) (n + i) 0 ≡ get_or part i 0
  unfolding front
  get_or_placed i h =
      get_or-append (front n xs ++ part) (drop m xs) 0 (n + i) (rw length_placed (omega arith)) ∙ get_or-tab_from (λ k. get_or xs k 0) n part i

  pub get_or_placed_behind : (i : ℕ) → m ≤ i → get_or (front n xs ++ part ++ drop m xs) i 0 ≡ get_or xs i 0
  get_or_placed_behind = get_or-behind (front n xs ++ part) xs m length_placed

  pub length_placed_all : length (front n xs ++ part ++ drop m xs) ≡ m + (length xs - m)
  length_placed_all = length-behind (front n xs ++ part) xs m length_placed

-- tests that agree below n
pub count_ext : (f g : ℕ → Bool) (n : ℕ) → ((i : ℕ) → i < n → f i ≡ g i) → count f n ≡ count g n
unfolding count
count_ext f g zero h = refl
count_ext f g (suc n) h = rw (count_ext f g n (λ i l. h i (omega arith)), h n (omega arith))

-- f holds without g or with g
pub count_split : (f g : ℕ → Bool) (n : ℕ) → count f n ≡ count (λ v. f v && not (g v)) n + count (λ v. f v && g v) n
unfolding count
count_split f g zero = refl
count_split f g (suc n) = go (f n) (g n) _ _ _ (count_split f g n)
  where
    go : (a b : Bool) (k i j : ℕ) → k ≡ i + j → cond a (suc k) k ≡ cond (a && not b) (suc i) i + cond (a && b) (suc j) j
    go true true k i j e = omega arith
    go true false k i j e = omega arith
    go false b k i j e = e

-- no more numbers below n than n
pub count_most : (f : ℕ → Bool) (n : ℕ) → count f n ≤ n
unfolding count
count_most f zero = omega arith
count_most f (suc n) = go (f n) (count f n) (count_most f n)
  where
    go : (b : Bool) (k : ℕ) → k ≤ n → cond b (suc k) k ≤ suc n
    go true k h = omega arith
    go false k h = omega arith

pub count_mono : (f : ℕ → Bool) (n m : ℕ) → n ≤ m → count f n ≤ count f m
unfolding count
count_mono f n = le_ind (λ m. count f n ≤ count f m) (omega arith) (λ m h below. le_trans below (step (f m) (count f m)))
  where
    step : (b : Bool) (k : ℕ) → k ≤ cond b (suc k) k
    step true k = omega arith
    step false k = omega arith

-- a number at which f holds counts for those behind it
pub count_holds : (f : ℕ → Bool) (v n : ℕ) → v < n → f v ≡ true → count f v < count f n
unfolding count
count_holds f v n h e = let q : count f (suc v) ≡ suc (count f v) = rw e refl in omega (arith, count_mono f (suc v) n h)

pub length-rising : (f : ℕ → Bool) (n : ℕ) → length (rising f n) ≡ count f n
unfolding rising count
length-rising f zero = refl
length-rising f (suc n) = go (f n) (rising f n) (count f n) (length-rising f n)
  where
    go : (b : Bool) (xs : List ℕ) (c : ℕ) → length xs ≡ c → length (cond b (xs ++ (n ∷ [])) xs) ≡ cond b (suc c) c
    go true xs c e = rw (length-append, e) (add-one c)
    go false xs c e = e

-- number v stands at place i among the numbers below n at which f holds
pub record Listed (f : ℕ → Bool) (n i v : ℕ) : Type 0 where
  pub below : v < n
  pub holds : f v ≡ true
  pub place : count f v ≡ i

-- every element of `rising` is such a number, at its place
pub rising-of : (f : ℕ → Bool) (n i : ℕ) → i < count f n → Listed f n i (get_or (rising f n) i 0)
unfolding rising count
rising-of f zero i h = absurd (not-suc-le-zero h)
rising-of f (suc n) i h = go (f n) refl h (rising-of f n i)
  where
    more : {v : ℕ} → Listed f n i v → Listed f (suc n) i v
    more r = record { below = omega arith; holds = r.holds; place = r.place }

    go : (b : Bool) → f n ≡ b → i < cond b (suc (count f n)) (count f n) → (i < count f n → Listed f n i (get_or (rising f n) i 0)) →
        Listed f (suc n) i (get_or (cond b (rising f n ++ (n ∷ [])) (rising f n)) i 0)
    go true e l before = below_suc i (count f n) l
        (λ k. rw (get_or-append (rising f n) (n ∷ []) 0 i (rw (length-rising f n) k)) (more (before k)))
        (λ q. rw (q, get_or_at (rising f n) n [] 0 (count f n) (length-rising f n)) (record { below = omega arith; holds = e; place = refl }))
    go false e l before = more (before l)

-- and every such number is an element
pub rising_at : (f : ℕ → Bool) (n v : ℕ) → v < n → f v ≡ true → get_or (rising f n) (count f v) 0 ≡ v
unfolding rising count
rising_at f zero v h e = absurd (not-suc-le-zero h)
rising_at f (suc n) v h e = below_suc v n h
    (λ l. go (f n) (rising_at f n v l e) (rw (length-rising f n) (count_holds f v n l e)))
    (λ q. rw (rw q at e, q) (get_or_at (rising f n) n [] 0 (count f n) (length-rising f n)))
  where
    go : (b : Bool) → get_or (rising f n) (count f v) 0 ≡ v → count f v < length (rising f n) → get_or (cond b (rising f n ++ (n ∷ [])) (rising f n)) (count f v) 0 ≡ v
    go true q l = get_or-append (rising f n) (n ∷ []) 0 (count f v) l ∙ q
    go false q l = q

-- elements strictly rise
pub rising_rises : (f : ℕ → Bool) (n i j : ℕ) → i < j → j < count f n → get_or (rising f n) i 0 < get_or (rising f n) j 0
rising_rises f n i j h l = go (rising-of f n i (omega arith)) (rising-of f n j l)
  where
    go : {u v : ℕ} → Listed f n i u → Listed f n j v → u < v
    go {u} {v} a b = apart (dec_lt u v)
      where
        apart : Dec (u < v) → u < v
        apart (yes k) = k
        apart (no k) = omega (arith, count_mono f v u (omega arith))

-- the rest of a list from a place on is all of it that is left, and nothing is behind it
module _ (t : List ℕ) (a : ℕ) where
  pub rest_whole : take (length t - a) (drop a t) ≡ drop a t
  rest_whole = take_all (length t - a) (drop a t) (rw length-drop (omega arith))

  pub rest_none : drop (length t - a) (drop a t) ≡ []
  rest_none = drop_of_length-le (drop a t) {i = length t - a} (rw length-drop (omega arith))
