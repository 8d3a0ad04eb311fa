-- Labels and moves one at a time: which label a step takes, and what the least of two and one more come to.
use Prim.Native.Nat.{ℕ, zero, suc, ◌+◌, ◌<◌, ◌≤◌}
use native.Mathlib.Omega.{arith}
use native.Mathlib.Numerals.{add-one}
use mathlib.Core.Path.{◌≡◌, refl, sym, ◌∙◌}
use mathlib.Core.Bool.{Bool, true, false, ◌||◌, cond, or-true}
use mathlib.Core.List.{List, [], ◌∷◌}
use borrow.Author.Tests.{eqb-true, eqb-false, eq-eqb, leb-true, leb-false, lt-ltb}
use lib.Dec.{eqb, ltb, leb, eqb-suc-zero}
use lib.ListN.{length}
use Rattle.tables.specs.Limits.{word_limit}
use Rattle.selection.proofs.Runs.{either}
use Rattle.conflict.specs.Meeting.{agree, landing, shared, sooner, least, onward, shorter, longer}

-- a step takes a label, by its own: so `takes p` is `asks (label p)`
abbrev pub asked : ℕ → ℕ → Bool
asked x l = eqb x 0 || eqb x l

abbrev pub asks : (ℕ → ℕ) → ℕ → ℕ → Bool
asks a i l = asked (a i) l

-- a label that a node may have
pub record Named (l : ℕ) : Type 0 where
  pub some : 0 < l
  pub word : l < word_limit

-- a number that is present, and no more than another
pub record Within (n k : ℕ) : Type 0 where
  pub some : 0 < n
  pub most : n ≤ k

-- what a test tells: two numbers are equal, or they are not
by_eqb : {X : Type 0} (m n : ℕ) → (m ≡ n → eqb m n ≡ true → X) → ((m ≡ n → ⊥) → eqb m n ≡ false → X) → X
by_eqb {X} m n f g = go (eqb m n) refl
  where
    go : (t : Bool) → eqb m n ≡ t → X
    go true e = f (eqb-true m n e) e
    go false e = g (eqb-false m n e) e

-- where a step lands there is a label, and the step takes it
pub landing-named : (x : ℕ) → x < word_limit → Named (landing x)
unfolding landing
landing-named x h = by_eqb x 0 (λ e t. rw t (omega arith)) (λ e t. rw t (omega arith))

pub landing-asked : (x : ℕ) → asked x (landing x) ≡ true
unfolding landing
landing-asked x = by_eqb x 0 (λ e t. rw t) (λ e t. rw (t, eq-eqb x x refl))

-- where two steps that agree land there is a label, and both take it
pub shared-named : (x y : ℕ) → x < word_limit → y < word_limit → Named (shared x y)
unfolding shared
shared-named x y h k = by_eqb x 0 (λ e t. rw t (landing-named y k)) (λ e t. rw t (omega arith))

pub shared_read : (x y : ℕ) → asked x (shared x y) ≡ true
unfolding shared
shared_read x y = by_eqb x 0 (λ e t. rw t) (λ e t. rw (t, eq-eqb x x refl))

pub shared_update : (x y : ℕ) → agree x y ≡ true → asked y (shared x y) ≡ true
unfolding shared agree
shared_update x y h =
    by_eqb x 0
    (λ e t. rw t (landing-asked y))
    (λ e t. either (eqb y 0) (eqb x y) (rw t at h) (λ v. rw v) (λ v. rw (t, eq-eqb y x (sym (eqb-true x y v)), or-true)))

-- two steps that take one label agree
pub agree_of : (x y l : ℕ) → asked x l ≡ true → asked y l ≡ true → agree x y ≡ true
unfolding agree
agree_of x y l p q =
    either (eqb x 0) (eqb x l) p (λ t. rw t)
    (λ t. either (eqb y 0) (eqb y l) q (λ v. rw (v, or-true)) (λ v. rw (eq-eqb x y (eqb-true x l t ∙ sym (eqb-true y l v)), or-true)))

-- the first of two is taken where it is present and the second, if present, is no less
by_sooner : {X : Type 0} (m n : ℕ) → (0 < m → (0 < n → m ≤ n) → sooner m n ≡ true → X) → ((0 < m → Within n m) → sooner m n ≡ false → X) → X
unfolding sooner
by_sooner {X} m n f g =
    by_eqb m 0
    (λ e t. g (λ h. absurd (omega arith)) (rw t))
    (λ e t. by_eqb n 0 (λ d v. f (omega arith) (λ h. absurd (omega arith)) (rw (t, v))) (λ d v. go e t d v (leb m n) refl))
  where
    go : (m ≡ 0 → ⊥) → eqb m 0 ≡ false → (n ≡ 0 → ⊥) → eqb n 0 ≡ false → (x : Bool) → leb m n ≡ x → X
    go e t d v true c = f (omega arith) (λ h. leb-true m n c) (rw (t, v, c))
    go e t d v false c = g (λ h. omega (arith, leb-false m n c)) (rw (t, v, c))

-- the least of two is within what either is within
pub least_first : (m n : ℕ) {k : ℕ} → Within m k → Within (least m n) k
unfolding least
least_first m n h = by_sooner m n (λ p q t. rw t h) (λ f t. rw t (omega (arith, f h.some)))

pub least_second : (m n : ℕ) {k : ℕ} → Within n k → Within (least m n) k
unfolding least
least_second m n h = by_sooner m n (λ p q t. rw t (omega (arith, q h.some))) (λ f t. rw t h)

-- it is present exactly if one of the two is
pub least_some : (m n : ℕ) → ltb 0 (least m n) ≡ (ltb 0 m || ltb 0 n)
unfolding least sooner
least_some zero n = refl
least_some (suc m) n = rw (lt-ltb 0 (suc m) (omega arith)) (lt-ltb 0 (least (suc m) n) (least_first (suc m) n {k = suc m} (omega arith)).some)

-- what holds of two holds of the one taken
pub cond_keeps : {A : Type 0} (P : A → Type 0) (t : Bool) {x y : A} → (t ≡ true → P x) → P y → P (cond t x y)
cond_keeps P true p q = p refl
cond_keeps P false p q = q

pub least_keeps : (P : ℕ → Type 0) (m n : ℕ) → P m → P n → P (least m n)
unfolding least
least_keeps P m n p q = cond_keeps P (sooner m n) (λ e. p) q

pub shorter_keeps : (P : List ℕ → Type 0) (v w : List ℕ) → P v → P w → P (shorter v w)
unfolding shorter
shorter_keeps P v w p q = cond_keeps P (sooner (length v) (length w)) (λ e. p) q

-- a move that may be made keeps what is present, and takes one more
pub onward-within : {may : Bool} (n : ℕ) {k : ℕ} → may ≡ true → Within n k → Within (onward may n) (suc k)
unfolding onward
onward-within n e h = by_eqb n 0 (λ z t. absurd (omega arith)) (λ z t. rw (e, t) (omega arith))

pub onward_most : (may : Bool) (n : ℕ) → onward may n ≤ n + 1
unfolding onward
onward_most true n = cond_keeps (λ x. x ≤ n + 1) (eqb n 0) (λ e. omega arith) (omega arith)
onward_most false n = omega arith

-- a move made on a way
pub longer_keeps : (P : List ℕ → Type 0) (may : Bool) (l : ℕ) (w : List ℕ) → P [] → (may ≡ true → P (l ∷ w)) → P (longer may l w)
unfolding longer
longer_keeps P may l [] none some = none
longer_keeps P true l (m ∷ w) none some = some refl
longer_keeps P false l (m ∷ w) none some = none

-- the numbers count the labels of the ways
pub length-shorter : (v w : List ℕ) → length (shorter v w) ≡ least (length v) (length w)
unfolding shorter least
length-shorter v w = go (sooner (length v) (length w))
  where
    go : (t : Bool) → length (cond t v w) ≡ cond t (length v) (length w)
    go true = refl
    go false = refl

pub length-longer : (may : Bool) (l : ℕ) (w : List ℕ) → length (longer may l w) ≡ onward may (length w)
unfolding longer onward
length-longer true l [] = refl
length-longer false l [] = refl
length-longer true l (m ∷ w) = rw (eqb-suc-zero (length w), add-one)
length-longer false l (m ∷ w) = refl
