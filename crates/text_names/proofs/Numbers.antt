-- The number of a name among others: of distinct names each has its place, and only what is listed has one.
use Prim.Native.Nat.{ℕ, zero, suc, ◌+◌, ◌-◌, ◌<◌, ◌≤◌, zero-le, suc-le-suc}
use mathlib.Core.Path.{◌≡◌, refl, ◌∙◌}
use mathlib.Core.Bool.{Bool, true, false, cond}
use mathlib.Core.List.{List, [], ◌∷◌}
use native.Mathlib.Nat.{not-suc-le-zero, le_of_suc-le-suc}
use native.Mathlib.Omega.{arith}
use lib.ListN.{length, get_or}
use Rattle.text_names.specs.Names.{Names, same, place_from, number_of}
use Rattle.text_names.proofs.Same.{same_refl, same_eq, same_not}

-- word k of distinct ones has the place n + k
place-listed : (n : ℕ) (ws : List (List ℕ))
    → ((j k : ℕ) → j < k → k < length ws → get_or ws j [] ≡ get_or ws k [] → ⊥) → (k : ℕ) → k < length ws → place_from n ws (get_or ws k []) ≡ n + k
unfolding place_from
place-listed n [] distinct k h = absurd (not-suc-le-zero h)
place-listed n (x ∷ ws) distinct zero h = rw (same_refl x) (omega arith)
place-listed n (x ∷ ws) distinct (suc k) h =
    let rest = place-listed (suc n) ws (λ i j l m. distinct (suc i) (suc j) (suc-le-suc l) (suc-le-suc m)) k (le_of_suc-le-suc h) in
    rw (same_not x (get_or ws k []) (distinct 0 (suc k) (omega arith) h), rest)
    (omega arith)

pub number-listed : (ws : List (List ℕ)) → Names ws → (k : ℕ) → k < length ws → number_of ws (get_or ws k []) ≡ suc k
number-listed ws names k h = place-listed 1 ws names.distinct k h ∙ omega arith

-- the word that has this place
record Found (n : ℕ) (ws : List (List ℕ)) (w : List ℕ) : Type 0 where
  at : ℕ
  there : at < length ws
  place : place_from n ws w ≡ n + at
  word : get_or ws at [] ≡ w

found_here : (n : ℕ) (x : List ℕ) (ws : List (List ℕ)) (w : List ℕ) → same x w ≡ true → Found n (x ∷ ws) w
unfolding place_from
found_here n x ws w e = record { at = 0; there = suc-le-suc zero-le; place = rw e (omega arith); word = same_eq x w e }

found_behind : (n : ℕ) (x : List ℕ) (ws : List (List ℕ)) (w : List ℕ) → same x w ≡ false → Found (suc n) ws w → Found n (x ∷ ws) w
unfolding place_from
found_behind n x ws w e f =
    record {
      at = suc f.at;
      there = suc-le-suc f.there;
      place = rw (e, f.place) (omega arith);
      word = f.word;
    }

found : (n : ℕ) (ws : List (List ℕ)) (w : List ℕ) → 0 < place_from n ws w → Found n ws w
unfolding place_from
found n [] w h = absurd (not-suc-le-zero h)
found n (x ∷ ws) w h = go (same x w) refl h (found (suc n) ws w)
  where
    go : (b : Bool) → same x w ≡ b → 0 < cond b n (place_from (suc n) ws w) → (0 < place_from (suc n) ws w → Found (suc n) ws w) → Found n (x ∷ ws) w
    go true e l more = found_here n x ws w e
    go false e l more = found_behind n x ws w e (more l)

pub listed-number : (ws : List (List ℕ)) (w : List ℕ) → 0 < number_of ws w → (number_of ws w ≤ length ws) × (get_or ws (number_of ws w - 1) [] ≡ w)
listed-number ws w h =
    let f = found 1 ws w h in
    let back : number_of ws w - 1 ≡ f.at = rw f.place (omega arith) in
    (rw f.place (omega (arith, f.there)), rw back f.word)

-- a number is at most the length
pub number-within : (ws : List (List ℕ)) (w : List ℕ) → number_of ws w ≤ length ws
number-within ws w = go (number_of ws w) refl
  where
    go : (n : ℕ) → number_of ws w ≡ n → n ≤ length ws
    go zero e = zero-le
    go (suc n) e = rw e at (listed-number ws w (rw e (suc-le-suc zero-le))).0

-- what is none of the names has no number
pub number_none : (ws : List (List ℕ)) (w : List ℕ) → ((j : ℕ) → j < length ws → get_or ws j [] ≡ w → ⊥) → number_of ws w ≡ 0
number_none ws w other = go (number_of ws w) refl
  where
    go : (n : ℕ) → number_of ws w ≡ n → n ≡ 0
    go zero e = refl
    go (suc n) e =
        let f = found 1 ws w (rw e (suc-le-suc zero-le)) in
        absurd (other f.at f.there f.word)

-- and one of them has one
place_some : (n : ℕ) (ws : List (List ℕ)) (j : ℕ) → 0 < n → j < length ws → 0 < place_from n ws (get_or ws j [])
unfolding place_from
place_some n [] j h l = absurd (not-suc-le-zero l)
place_some n (x ∷ ws) zero h l = rw (same_refl x) h
place_some n (x ∷ ws) (suc j) h l = go (same x (get_or ws j [])) (place_some (suc n) ws j (omega arith) (le_of_suc-le-suc l))
  where
    go : (b : Bool) → 0 < place_from (suc n) ws (get_or ws j []) → 0 < cond b n (place_from (suc n) ws (get_or ws j []))
    go true k = h
    go false k = k

pub number_some : (ws : List (List ℕ)) (j : ℕ) → j < length ws → 0 < number_of ws (get_or ws j [])
number_some ws j h = place_some 1 ws j (omega arith) h
