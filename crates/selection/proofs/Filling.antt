-- A list that is written from the front, its rest as it was; and a row, one byte a turn: f below v, and as it was from v on.
use Prim.Native.Nat.{ℕ, zero, suc, ◌+◌, ◌<◌, ◌≤◌}
use mathlib.Core.Path.{◌≡◌, refl, sym, ◌∙◌, ap}
use mathlib.Core.List.{List, [], ◌∷◌, ◌++◌, append_assoc}
use native.Mathlib.Numerals.{add-one}
use native.Mathlib.Omega.{arith}
use lib.ListN.{length, take, drop, replicate, get_or, set, length-append, length-take}
use lib.Seq.{drop-cons, set_at, append_snoc, drop_at}
use Rattle.selection.specs.Lists.{tab}
use Rattle.selection.proofs.Lists.{length-tab, get_or-tab-before, get_or-behind, length-behind}

-- one element written behind a list that stands in the place of another's first n
pub set_next : (first xs : List ℕ) (n a : ℕ) → length first ≡ n → n < length xs → set (first ++ drop n xs) n a ≡ first ++ (a ∷ []) ++ drop (suc n) xs
set_next first xs n a e h =
    rw (drop-cons xs n 0 h) (set_at first (get_or xs n 0) (drop (suc n) xs) a n e ∙ sym (append_snoc first a (drop (suc n) xs)))

-- and two
pub set_two : (first xs : List ℕ) (n a b : ℕ) → length first ≡ n → n + 1 < length xs →
    set (set (first ++ drop n xs) n a) (n + 1) b ≡ first ++ (a ∷ b ∷ []) ++ drop (suc (suc n)) xs
set_two first xs n a b e h =
    rw (set_next first xs n a e (omega arith), add-one n, set_next (first ++ (a ∷ [])) xs (suc n) b (rw (length-append, e) (add-one n)) (omega arith), append_assoc first (a ∷ []) (b ∷ [])) refl

-- and three
pub set_three : (first xs : List ℕ) (n a b c : ℕ) → length first ≡ n → n + 2 < length xs →
    set (set (set (first ++ drop n xs) n a) (n + 1) b) (n + 2) c ≡ first ++ (a ∷ b ∷ c ∷ []) ++ drop (n + 3) xs
set_three first xs n a b c e h =
    let two : n + 2 ≡ suc (suc n) = omega arith in
    let three : n + 3 ≡ suc (suc (suc n)) = omega arith in
    rw (
      set_two first xs n a b e (omega arith),
      two,
      three,
      set_next (first ++ (a ∷ b ∷ [])) xs (suc (suc n)) c (rw (length-append, e) two) (omega arith),
      append_assoc first (a ∷ b ∷ []) (c ∷ []),
    )
    refl

-- a row that is written byte by byte
module _ (f : ℕ → ℕ) (old : List ℕ) where
  pub row_start : old ≡ tab f 0 ++ drop 0 old
  unfolding tab
  row_start = refl

  module _ {row : List ℕ} (v : ℕ) (e : row ≡ tab f v ++ drop v old) where
    pub row_more : {b : ℕ} → v < length old → b ≡ f v → set row v b ≡ tab f (v + 1) ++ drop (v + 1) old
    unfolding tab
    row_more h q =
        rw (e, q, add-one, drop-cons old v 0 h)
        (set_at (tab f v) (get_or old v 0) (drop (suc v) old) (f v) v (length-tab f v)
        ∙ sym (append_snoc (tab f v) (f v) (drop (suc v) old)))

    -- below v the new byte stands, at v and from there on the old
    pub row_new : (u : ℕ) → u < v → get_or row u 0 ≡ f u
    row_new u h = rw e (get_or-tab-before f v (drop v old) u h)

    pub row_old : (u : ℕ) → v ≤ u → get_or row u 0 ≡ get_or old u 0
    row_old u h = rw e (get_or-behind (tab f v) old v (length-tab f v) u h)

    pub row_long : v ≤ length old → length row ≡ length old
    row_long h = rw e (length-behind (tab f v) old v (length-tab f v) ∙ omega arith)

    pub row_within : (n : ℕ) → v < n → n ≤ length old → v < length row
    row_within n h l = rw (row_long (omega arith)) (omega arith)

    pub row_end : (n : ℕ) → v ≤ n → n ≤ v → row ≡ tab f n ++ drop n old
    row_end n h l =
        let same : n ≡ v = omega arith in
        rw same e

  -- behind n all is as it was, so a row that is written a second time is as if written only then
  module _ {row : List ℕ} (n : ℕ) (e : row ≡ tab f n ++ drop n old) where
    pub row_rest : drop n row ≡ drop n old
    row_rest = rw e (drop_at (tab f n) (drop n old) n (length-tab f n))

    pub row_twice : (g : ℕ → ℕ) {again : List ℕ} → again ≡ tab g n ++ drop n row → again ≡ tab g n ++ drop n old
    row_twice g q = q ∙ rw row_rest

    pub row_again : row ≡ tab f n ++ drop n row
    row_again = e ∙ ap (λ (rest : List ℕ). tab f n ++ rest) (sym row_rest)

-- a row of one number, by the library's word for it
same_behind : (a n : ℕ) → a ∷ tab (λ _. a) n ≡ tab (λ _. a) n ++ (a ∷ [])
unfolding tab
same_behind a zero = refl
same_behind a (suc n) = ap (λ xs. xs ++ (a ∷ [])) (same_behind a n)

tab_replicate : (a n : ℕ) → replicate n a ≡ tab (λ _. a) n
unfolding tab
tab_replicate a zero = refl
tab_replicate a (suc n) = ap (λ xs. a ∷ xs) (tab_replicate a n) ∙ same_behind a n

-- the front of a buffer that is filled with it
pub front_filled : (a n : ℕ) (xs : List ℕ) {front : List ℕ} → n ≤ length xs → front ≡ replicate (length (take n xs)) a → front ++ drop n xs ≡ tab (λ _. a) n ++ drop n xs
front_filled a n xs h e =
    let long : length (take n xs) ≡ n = simp length-take (omega arith) in
    rw (e, long, tab_replicate a n)
