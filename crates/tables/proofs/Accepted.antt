-- What a fine check says: each test that it made holds.
use Prim.Native.Nat.{ℕ, zero, suc, ◌+◌, ◌<◌, ◌≤◌}
use mathlib.Core.Path.{◌≡◌, refl}
use mathlib.Core.Bool.{Bool, true, false}
use native.Mathlib.Nat.{add-zero}
use native.Mathlib.Omega.{arith}
use lib.Dec.{leb}
use borrow.Author.Tests.{leb-true}
use Rattle.tables.specs.declared.refusal.Refusal.{Refusal}
use Rattle.tables.specs.Checks.{Checked}
use Rattle.std.specs.Prelude.{Ok, Err}
use Rattle.tables.specs.Checks.{Fine}
use Rattle.tables.specs.Checks.{◌then◌, test, each, output_check}

-- a check that is fine is no refusal
pub never : {A : Type 0} {c : Checked} {r : Refusal} → c ≡ Err r → c ≡ Fine → A
never e f = let z : ◌≡◌ {A = ℕ} 0 1 = cc in absurd (omega arith)

pub held : (b : Bool) (r : Refusal) → test b (Err r) ≡ Fine → b ≡ true
held true r e = refl
held false r e = never refl e

pub then_first : (a b : Checked) → (a then b) ≡ Fine → a ≡ Fine
then_first (Ok tt) b e = refl
then_first (Err r) b e = never refl e

pub then_second : (a b : Checked) → (a then b) ≡ Fine → b ≡ Fine
then_second (Ok tt) b e = e
then_second (Err r) b e = never refl e

-- and back: where both checks are fine, so is one after the other
pub then_both : (a b : Checked) → a ≡ Fine → b ≡ Fine → (a then b) ≡ Fine
then_both a b e f = rw (e, f)

-- of three checks in this order, any two may be made together
pub then_assoc : (a b c : Checked) → ((a then b) then c) ≡ (a then b then c)
then_assoc (Ok tt) b c = refl
then_assoc (Err r) b c = refl

-- each check that was made is fine
pub each_fine : (check : ℕ → Checked) (v k : ℕ) → each check v k ≡ Fine → (i : ℕ) → i < k → check (v + i) ≡ Fine
unfolding each
each_fine check v zero e i h = absurd (omega arith)
each_fine check v (suc k) e zero h = rw add-zero (then_first (check v) (each check (suc v) k) e)
each_fine check v (suc k) e (suc i) h =
    let same : v + suc i ≡ suc v + i = omega arith in
    rw same (each_fine check (suc v) k (then_second (check v) (each check (suc v) k) e) i (omega arith))

-- and back: where every check is fine, so is the walk
pub each_all : (check : ℕ → Checked) (v k : ℕ) → ((i : ℕ) → i < k → check (v + i) ≡ Fine) → each check v k ≡ Fine
unfolding each
each_all check v zero all = refl
each_all check v (suc k) all =
    let here : check v ≡ Fine = rw add-zero at (all 0 (omega arith)) in
    rw here
    (each_all check (suc v) k
    (λ i h.
    let same : suc v + i ≡ v + suc i = omega arith in
    rw same (all (suc i) (omega arith))))

-- an output that is accepted is long enough
pub output_room : (wanted have : ℕ) → output_check wanted have ≡ Fine → wanted ≤ have
unfolding output_check
output_room wanted have e = leb-true wanted have (held (leb wanted have) _ e)
