-- The children of a node from a number on, in rising number: none where there is no first, else the first and those behind it.
use Prim.Native.Nat.{ℕ, zero, suc, ◌+◌, ◌-◌, ◌<◌, ◌≤◌}
use mathlib.Core.Path.{◌≡◌, refl, sym, ◌∙◌, ap}
use mathlib.Core.Bool.{Bool, true, false, cond}
use mathlib.Core.List.{List, [], ◌∷◌, ◌++◌, append-nil}
use native.Mathlib.Nat.{add-zero, zero-add}
use native.Mathlib.Omega.{arith}
use Rattle.tables.specs.Words.{nodes}
use Rattle.selection.specs.Lists.{rising}
use Rattle.text_xml.specs.Tags.{child_of, children}
use Rattle.text_xml_out.specs.Links.{child_in, child_from}

-- the numbers from c on, of k, at which f holds
unfoldable pub onward : (ℕ → Bool) → ℕ → ℕ → List ℕ
onward f c zero = []
onward f c (suc k) = cond (f c) (c ∷ onward f (suc c) k) (onward f (suc c) k)

module _ (f : ℕ → Bool) where
  onward-last : (c k : ℕ) → onward f c (suc k) ≡ onward f c k ++ cond (f (c + k)) ((c + k) ∷ []) []
  unfolding onward
  onward-last c zero = rw (add-zero c)
  onward-last c (suc k) =
      let same : c + suc k ≡ suc c + k = omega arith in
      rw same (go (f c) (onward-last (suc c) k))
    where
      go : (b : Bool) → onward f (suc c) (suc k) ≡ onward f (suc c) k ++ cond (f (suc c + k)) ((suc c + k) ∷ []) []
          → cond b (c ∷ onward f (suc c) (suc k)) (onward f (suc c) (suc k)) ≡ cond b (c ∷ onward f (suc c) k) (onward f (suc c) k) ++ cond (f (suc c + k)) ((suc c + k) ∷ []) []
      go true e = ap (λ (xs : List ℕ). c ∷ xs) e
      go false e = e

  rising-onward : (n : ℕ) → rising f n ≡ onward f 0 n
  unfolding rising onward
  rising-onward zero = refl
  rising-onward (suc n) = go (f n) refl (rising-onward n) (onward-last 0 n)
    where
      go : (b : Bool) → f n ≡ b → rising f n ≡ onward f 0 n → onward f 0 (suc n) ≡ onward f 0 n ++ cond (f (0 + n)) ((0 + n) ∷ []) [] → cond b (rising f n ++ (n ∷ [])) (rising f n) ≡ onward f 0 (suc n)
      go true e q l = sym (l ∙ rw (zero-add n, e, q))
      go false e q l = sym (l ∙ rw (zero-add n, e, q) (append-nil _))

-- the children of v from c on
unfoldable pub children_from : List ℕ → ℕ → ℕ → List ℕ
children_from t v c = onward (child_of t v) c (nodes t - c)

-- the first of them, and those behind it
pub record FirstChild (t : List ℕ) (v c d : ℕ) : Type 0 where
  pub least : c ≤ d
  pub node : d < nodes t
  pub child : child_of t v d ≡ true
  pub rest : children_from t v c ≡ d ∷ children_from t v (suc d)

module _ (t : List ℕ) (v : ℕ) where
  none_in : (c k : ℕ) → 0 < c → child_in t v c k ≡ 0 → onward (child_of t v) c k ≡ []
  unfolding child_in onward
  none_in c zero some e = refl
  none_in c (suc k) some e = go (child_of t v c) e (none_in (suc c) k (omega arith))
    where
      go : (b : Bool) → cond b c (child_in t v (suc c) k) ≡ 0 → (child_in t v (suc c) k ≡ 0 → onward (child_of t v) (suc c) k ≡ [])
          → cond b (c ∷ onward (child_of t v) (suc c) k) (onward (child_of t v) (suc c) k) ≡ []
      go true e more = absurd (omega arith)
      go false e more = more e

  pub none_left : (c : ℕ) → 0 < c → child_from t v c ≡ 0 → children_from t v c ≡ []
  unfolding child_from children_from
  none_left c = none_in c (nodes t - c)

  from_more : (c k : ℕ) → suc k ≡ nodes t - c → children_from t v c ≡ cond (child_of t v c) (c ∷ children_from t v (suc c)) (children_from t v (suc c))
  unfolding children_from onward
  from_more c k e =
      let less : nodes t - suc c ≡ k = omega arith in
      rw (← e, less)

  first_in : (c k : ℕ) → k ≡ nodes t - c → (child_in t v c k ≡ 0 → ⊥) → FirstChild t v c (child_in t v c k)
  unfolding child_in
  first_in c zero e n = absurd (n refl)
  first_in c (suc k) e n = go (child_of t v c) refl n (first_in (suc c) k (omega arith))
    where
      go : (b : Bool) → child_of t v c ≡ b → (cond b c (child_in t v (suc c) k) ≡ 0 → ⊥) → ((child_in t v (suc c) k ≡ 0 → ⊥) → FirstChild t v (suc c) (child_in t v (suc c) k))
          → FirstChild t v c (cond b c (child_in t v (suc c) k))
      go true is n more = record { least = omega arith; node = omega arith; child = is; rest = from_more c k e ∙ rw is }
      go false is n more =
          let later = more n in
          record { least = omega (arith, later.least); node = later.node; child = later.child; rest = from_more c k e ∙ rw is later.rest }

  pub first_left : (c : ℕ) → (child_from t v c ≡ 0 → ⊥) → FirstChild t v c (child_from t v c)
  unfolding child_from
  first_left c = first_in c (nodes t - c) refl

  -- all of them: the root is nobody's child
  pub children_from_lem : 0 < nodes t → children t v ≡ children_from t v 1
  unfolding children children_from onward child_of
  children_from_lem h =
      let one : nodes t ≡ suc (nodes t - 1) = omega arith in
      rising-onward (child_of t v) (nodes t) ∙ ap (onward (child_of t v) 0) one
