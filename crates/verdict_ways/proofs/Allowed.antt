-- What is allowed: nothing is written where a check refuses, and where it is fine the way or the test is as it is.
use Rattle.std.specs.Prelude.{Err}
use Prim.Native.Nat.{ℕ}
use mathlib.Core.Path.{◌≡◌, refl}
use mathlib.Core.Bool.{Bool, false}
use mathlib.Core.List.{List, []}
use Rattle.tables.specs.declared.refusal.Refusal.{Refusal}
use Rattle.tables.specs.Checks.{where_fine, Checked, Fine}
use Rattle.tables.proofs.Branches.{fine_on, fine_off, fine_back}
use Rattle.conflict.specs.Crossing.{chain}
use Rattle.verdict_ways.specs.Ways.{WayWritten}

module _ {got check : Checked} (e : got ≡ check) where
  pub allowed_on : {n : ℕ} {way before after : List ℕ} → got ≡ Fine → WayWritten way before after n → WayWritten (where_fine check way []) before after n
  allowed_on {n} {way} {before} {after} = fine_on (λ w. WayWritten w before after n) e way []

  pub allowed_off : {why : Refusal} (way out : List ℕ) → got ≡ Err why → WayWritten (where_fine check way []) out out 0
  unfolding chain
  allowed_off way out told = fine_off (λ w. WayWritten w out out 0) e way [] told (record { count = refl; words = refl })

module _ {check : Checked} (fine : check ≡ Fine) where
  pub granted : {n : ℕ} {way before after : List ℕ} → WayWritten (where_fine check way []) before after n → WayWritten way before after n
  granted {n} {way} {before} {after} w = fine_back (λ w. WayWritten w before after n) way [] fine w

  pub granted_test : {b test : Bool} → b ≡ where_fine check test false → b ≡ test
  granted_test {b} {test} w = fine_back (λ t. b ≡ t) test false fine w
