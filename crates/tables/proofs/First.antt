-- The first refusal of a walk: before it every check is fine.
use Prim.Native.Nat.{ℕ, zero, suc, ◌+◌, ◌<◌, ◌≤◌}
use mathlib.Core.Path.{◌≡◌, refl, ◌∙◌}
use native.Mathlib.Decide.{ℕ_discrete}
use native.Mathlib.Omega.{arith}
use Rattle.tables.specs.Checks.{◌then◌, each}
use Rattle.tables.specs.declared.refusal.Refusal.{Refusal}
use Rattle.tables.specs.Checks.{Checked}
use Rattle.std.specs.Prelude.{Ok, Err}
use Rattle.tables.specs.Checks.{Fine}
use Rattle.tables.proofs.Accepted.{never}

pub record First (check : ℕ → Checked) (v k : ℕ) (r : Refusal) : Type 0 where
  pub at : ℕ
  pub least : v ≤ at
  pub below : at < v + k
  pub before : (j : ℕ) → v ≤ j → j < at → check j ≡ Fine
  pub here : check at ≡ Err r

module _ (check : ℕ → Checked) (r : Refusal) where
  -- a walk that refuses has one
  pub each_first : (v k : ℕ) → each check v k ≡ Err r → First check v k r
  unfolding each
  each_first v zero e = never e refl
  each_first v (suc k) e = go (check v) refl e (each_first (suc v) k)
    where
      go : (c : Checked) → check v ≡ c → (c then each check (suc v) k) ≡ Err r → (each check (suc v) k ≡ Err r → First check (suc v) k r) → First check v (suc k) r
      go (Ok tt) is q more =
          let f = more q in
          record {
            at = f.at;
            least = omega (arith, f.least);
            below = omega (arith, f.below);
            before = λ j l m. one j (ℕ_discrete j v) (λ n. f.before j (omega arith) m);
            here = f.here;
          }
        where
          one : (j : ℕ) → Dec (j ≡ v) → ((j ≡ v → ⊥) → check j ≡ Fine) → check j ≡ Fine
          one j (yes p) other = rw p is
          one j (no p) other = other p
      go (Err s) is q more =
          record { at = v; least = omega arith; below = omega arith; before = λ j l m. absurd (omega (arith, l, m)); here = is ∙ q }

  -- and one that meets it refuses
  pub first_each : (v k : ℕ) → First check v k r → each check v k ≡ Err r
  unfolding each
  first_each v zero f = absurd (omega (arith, f.least, f.below))
  first_each v (suc k) f = go (ℕ_discrete v f.at) (first_each (suc v) k)
    where
      go : Dec (v ≡ f.at) → (First check (suc v) k r → each check (suc v) k ≡ Err r) → (check v then each check (suc v) k) ≡ Err r
      go (yes p) more =
          let here : check v ≡ Err r = rw p f.here in
          rw here
      go (no p) more =
          let fine : check v ≡ Fine = f.before v (omega arith) (omega (arith, f.least, p)) in
          rw fine
          (more (record {
            at = f.at;
            least = omega (arith, f.least, p);
            below = omega (arith, f.below);
            before = λ j l m. f.before j (omega (arith, l)) m;
            here = f.here;
          }))
