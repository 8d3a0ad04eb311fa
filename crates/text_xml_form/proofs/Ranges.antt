-- The numbers of a range at which a test holds; lists of rising numbers; and the children of a node as such.
use Prim.Native.Nat.{ℕ, zero, suc, ◌+◌, ◌-◌, ◌<◌, ◌≤◌}
use mathlib.Core.Path.{◌≡◌, refl, sym, ap, ◌∙◌}
use mathlib.Core.Bool.{Bool, true, false, cond}
use mathlib.Core.List.{List, [], ◌∷◌, ◌++◌, append_assoc, append-nil}
use native.Mathlib.Nat.{le_refl}
use native.Mathlib.Omega.{arith}
use lib.ListN.{get_or}
use Rattle.tables.specs.Words.{nodes}
use Rattle.selection.specs.Embeddings.{Child}
use Rattle.selection.specs.Lists.{rising}
use Rattle.selection.proofs.Up.{Falls}
use Rattle.text_xml.specs.Tags.{child_of, children}
use Rattle.text_xml.proofs.Tags.{child_child}

-- those at which f holds, of m numbers from n on
unfoldable pub holding : (ℕ → Bool) → ℕ → ℕ → List ℕ
holding f n zero = []
holding f n (suc m) = cond (f n) (n ∷ holding f (suc n) m) (holding f (suc n) m)

-- the rest of `rising` from n on
rising-behind : (f : ℕ → Bool) (n m : ℕ) → rising f (n + m) ≡ rising f n ++ holding f n m
unfolding holding rising
rising-behind f n zero = let e : n + 0 ≡ n = omega arith in rw e (sym (append-nil (rising f n)))
rising-behind f n (suc m) =
    let e : n + suc m ≡ suc n + m = omega arith in
    rw e (rising-behind f (suc n) m ∙ go (f n))
  where
    go : (b : Bool) → cond b (rising f n ++ (n ∷ [])) (rising f n) ++ holding f (suc n) m ≡ rising f n ++ cond b (n ∷ holding f (suc n) m) (holding f (suc n) m)
    go true = append_assoc (rising f n) (n ∷ []) (holding f (suc n) m)
    go false = refl

-- of a range in two parts, and of one where f holds nowhere
pub holding-append : (f : ℕ → Bool) (n a b : ℕ) → holding f n (a + b) ≡ holding f n a ++ holding f (n + a) b
unfolding holding
holding-append f n zero b = let e : 0 + b ≡ b = omega arith in let q : n + 0 ≡ n = omega arith in rw (e, q)
holding-append f n (suc a) b =
    let e : suc a + b ≡ suc (a + b) = omega arith in
    let q : n + suc a ≡ suc n + a = omega arith in
    rw (e, q) (go (f n) (holding-append f (suc n) a b))
  where
    go : (t : Bool) → holding f (suc n) (a + b) ≡ holding f (suc n) a ++ holding f (suc n + a) b
        → cond t (n ∷ holding f (suc n) (a + b)) (holding f (suc n) (a + b)) ≡ cond t (n ∷ holding f (suc n) a) (holding f (suc n) a) ++ holding f (suc n + a) b
    go true h = ap (λ x. n ∷ x) h
    go false h = h

pub holding_none : (f : ℕ → Bool) (n m : ℕ) → ((c : ℕ) → n ≤ c → c < n + m → f c ≡ true → ⊥) → holding f n m ≡ []
unfolding holding
holding_none f n zero never = refl
holding_none f n (suc m) never = go (f n) refl (holding_none f (suc n) m (λ c h l. never c (omega arith) (omega arith)))
  where
    go : (b : Bool) → f n ≡ b → holding f (suc n) m ≡ [] → cond b (n ∷ holding f (suc n) m) (holding f (suc n) m) ≡ []
    go true e h = absurd (never n (omega arith) (omega arith) e)
    go false e h = h

-- all numbers of a range
unfoldable pub counted : ℕ → ℕ → List ℕ
counted n m = holding (λ k. true) n m

pub counted_at : (n m k : ℕ) → k < m → get_or (counted n m) k 0 ≡ n + k
unfolding counted holding
counted_at n zero k h = absurd (omega arith)
counted_at n (suc m) zero h = omega arith
counted_at n (suc m) (suc k) h = counted_at (suc n) m k (omega arith) ∙ omega arith

-- numbers that rise, from n on, and P holds of each
pub data Rises (P : ℕ → Type 0) : ℕ → List ℕ → Type 0 where
  no_more : {n : ℕ} → Rises P n []
  then : {n c : ℕ} {cs : List ℕ} → n ≤ c → P c → Rises P (suc c) cs → Rises P n (c ∷ cs)

rises_from : {P : ℕ → Type 0} {n m : ℕ} {cs : List ℕ} → n ≤ m → Rises P m cs → Rises P n cs
rises_from h no_more = no_more
rises_from {n = n} h (then {c = c} a p r) = let b : n ≤ c = omega arith in then b p r

rises_as : {P Q : ℕ → Type 0} {n : ℕ} {cs : List ℕ} → ((c : ℕ) → P c → Q c) → Rises P n cs → Rises Q n cs
rises_as to no_more = no_more
rises_as to (then {c = c} a p r) = then a (to c p) (rises_as to r)

-- where f holds, in rising order
holding_rises : {P : ℕ → Type 0} (f : ℕ → Bool) (n m : ℕ) → ((c : ℕ) → n ≤ c → c < n + m → f c ≡ true → P c) → Rises P n (holding f n m)
unfolding holding
holding_rises {P} f n zero each = no_more
holding_rises {P} f n (suc m) each = go (f n) refl (holding_rises f (suc n) m (λ c h l. each c (omega arith) (omega arith)))
  where
    go : (b : Bool) → f n ≡ b → Rises P (suc n) (holding f (suc n) m) → Rises P n (cond b (n ∷ holding f (suc n) m) (holding f (suc n) m))
    go true e r = then (le_refl n) (each n (omega arith) (omega arith) e) r
    go false e r = rises_from (omega arith) r

-- the children of v are among a part of the nodes, where no other has it for a parent
module _ (t : List ℕ) (v n m : ℕ) (inside : n + m ≤ nodes t)
    (before : (c : ℕ) → c < n → Child t v c → ⊥) (behind : (c : ℕ) → n + m ≤ c → c < nodes t → Child t v c → ⊥) where
  pub children_among : children t v ≡ holding (child_of t v) n m
  unfolding children rising
  children_among =
      let f = child_of t v in
      let r = nodes t - (n + m) in
      let all : nodes t ≡ 0 + (n + (m + r)) = omega arith in
      let first : 0 + n ≡ n = omega arith in
      let e = ap (rising f) all ∙ rising-behind f 0 (n + (m + r)) ∙ holding-append f 0 n (m + r) ∙ ap (λ x. holding f 0 n ++ x) (holding-append f (0 + n) m r) in
      let a : holding f 0 n ≡ [] = holding_none f 0 n (λ c h l e. before c (omega arith) ((child_child t v c).0 e)) in
      let b : holding f (0 + n + m) r ≡ [] = holding_none f (0 + n + m) r (λ c h l e. behind c (omega arith) (omega arith) ((child_child t v c).0 e)) in
      e ∙ rw (a, b, first) (append-nil (holding f n m))

-- a child of v, among the nodes
pub record Under (t : List ℕ) (v c : ℕ) : Type 0 where
  pub node : c < nodes t
  pub child : Child t v c

-- where parents fall, the children of v rise behind it
module _ (t : List ℕ) (falls : Falls t (nodes t)) (v : ℕ) (h : v < nodes t) where
  pub not_before : (c : ℕ) → c < suc v → Child t v c → ⊥
  not_before c l is = omega (arith, falls c is.not_root (omega arith), is.under)

  pub children_rise : Rises (Under t v) (suc v) (children t v)
  children_rise =
      let m = nodes t - suc v in
      rw (children_among t v (suc v) m (omega arith) not_before (λ c a b is. omega arith))
      (holding_rises (child_of t v) (suc v) m (λ c a b e. record { node = omega arith; child = (child_child t v c).0 e }))

  pub children-nodes : Rises (λ c. c < nodes t) (suc v) (children t v)
  children-nodes = rises_as (λ c b. b.node) children_rise
