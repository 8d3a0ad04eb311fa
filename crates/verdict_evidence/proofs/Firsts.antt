-- The first number below n at which a test holds, n for none: there is one, and only one.
use Prim.Native.Nat.{ℕ, zero, suc, ◌+◌, ◌<◌, ◌≤◌}
use mathlib.Core.Path.{◌≡◌, refl, sym, ◌∙◌}
use mathlib.Core.Bool.{Bool, true, false, cond, false≢true}
use native.Mathlib.Decide.{ℕ_discrete, dec_lt}
use native.Mathlib.Nat.{le_antisymm}
use native.Mathlib.Omega.{arith}
use Rattle.verdict_evidence.specs.Finding.{first_from, first_of}

-- v is the first number below n at which f holds, or n where there is none
pub record First (f : ℕ → Bool) (n v : ℕ) : Type 0 where
  pub within : v ≤ n
  pub before : (u : ℕ) → u < v → f u ≡ false
  pub here : v < n → f v ≡ true

-- the same of the k numbers from v on
record FirstFrom (f : ℕ → Bool) (v k at : ℕ) : Type 0 where
  least : v ≤ at
  most : at ≤ v + k
  before : (u : ℕ) → v ≤ u → u < at → f u ≡ false
  here : at < v + k → f at ≡ true

first_from_lem : (f : ℕ → Bool) (v k : ℕ) → FirstFrom f v k (first_from f v k)
unfolding first_from
first_from_lem f v zero = record { least = omega arith; most = omega arith; before = λ u l m. absurd (omega (arith, l, m)); here = λ h. absurd (omega (arith, h)) }
first_from_lem f v (suc k) = go (f v) refl (first_from_lem f (suc v) k)
  where
    go : (b : Bool) → f v ≡ b → {at : ℕ} → FirstFrom f (suc v) k at → FirstFrom f v (suc k) (cond b v at)
    go true e more = record { least = omega arith; most = omega arith; before = λ u l m. absurd (omega (arith, l, m)); here = λ h. e }
    go false e more =
        record {
          least = omega (arith, more.least);
          most = omega (arith, more.most);
          before = λ u l m. one u (ℕ_discrete u v) (λ n. more.before u (omega (arith, l, n)) m);
          here = λ h. more.here (omega (arith, h));
        }
      where
        one : (u : ℕ) → Dec (u ≡ v) → ((u ≡ v → ⊥) → f u ≡ false) → f u ≡ false
        one u (yes q) other = rw q e
        one u (no q) other = other q

pub first_of_lem : (f : ℕ → Bool) (n : ℕ) → First f n (first_of f n)
unfolding first_of
first_of_lem f n =
    let all = first_from_lem f 0 n in
    record {
      within = omega (arith, all.most);
      before = λ u l. all.before u (omega arith) l;
      here = λ h. all.here (omega (arith, h));
    }

-- a first is no more than another
no_more : {f : ℕ → Bool} {n v w : ℕ} → First f n v → First f n w → v ≤ w
no_more {f} {n} {v} {w} a b = go (dec_lt w v)
  where
    go : Dec (w < v) → v ≤ w
    go (yes h) = absurd (false≢true (sym (a.before w h) ∙ b.here (omega (arith, h, a.within))))
    go (no h) = omega (arith, h)

-- two firsts are one
pub first_one : {f : ℕ → Bool} {n v w : ℕ} → First f n v → First f n w → v ≡ w
first_one a b = le_antisymm (no_more a b) (no_more b a)

-- so a first is the one that is computed
pub first_is : {f : ℕ → Bool} {n v : ℕ} → First f n v → v ≡ first_of f n
first_is {f} {n} a = first_one a (first_of_lem f n)

-- tests that agree below n have one first
pub first_ext : (f g : ℕ → Bool) (n : ℕ) → ((v : ℕ) → v < n → f v ≡ g v) → first_of f n ≡ first_of g n
first_ext f g n same =
    first_is (record {
      within = a.within;
      before = λ u l. sym (same u (omega (arith, l, a.within))) ∙ a.before u l;
      here = λ h. sym (same (first_of f n) h) ∙ a.here h;
    })
  where
    a : First f n (first_of f n)
    a = first_of_lem f n
