-- From the checks that the code makes to what is met.
use Rattle.std.specs.Prelude.{Err}
use Rattle.tables.specs.Checks.{Checked, Fine}
use Prim.Native.Nat.{ℕ, ◌<◌, ◌≤◌}
use mathlib.Core.Path.{◌≡◌, refl}
use mathlib.Core.Bool.{Bool, true, false, cond}
use mathlib.Core.List.{List, []}
use lib.Dec.{ltb, leb}
use lib.ListN.{length}
use borrow.Author.Tests.{lt-ltb, le-ltb}
use Rattle.tables.specs.Words.{steps}
use Rattle.tables.specs.declared.refusal.Refusal.{Refusal}
use Rattle.conflict.specs.Crossing.{chain}
use Rattle.check_verdict.specs.Order.{needed}
use Rattle.tables.proofs.Branches.{fine_on, fine_off}
use Rattle.verdict_meeting.specs.Met.{met, Met}

module _ (r p : List ℕ) where
  -- where there is no way, all stays
  met_none : (out : List ℕ) → Met r p [] out out 0
  unfolding chain
  met_none out = record { count = refl; words = same (leb (needed r p) (length out)) }
    where
      same : (b : Bool) → out ≡ cond b out out
      same true = refl
      same false = refl

  -- j is a state of p or not
  module _ (j : ℕ) (way : List ℕ) where
    pub state_none : (out : List ℕ) → steps p ≤ j → Met r p (cond (ltb j (steps p)) way []) out out 0
    state_none out h = rw (le-ltb j (steps p) h) (met_none out)

    pub state_some : {n : ℕ} {before after : List ℕ} → j < steps p → Met r p way before after n → Met r p (cond (ltb j (steps p)) way []) before after n
    state_some h w = rw (lt-ltb j (steps p) h) w

  module _ {got check : Checked} (e : got ≡ check) (inside : Bool) (way : List ℕ) where
    pub met-on : {n : ℕ} {before after : List ℕ} → got ≡ Fine → Met r p (cond inside way []) before after n → Met r p (met check inside way) before after n
    unfolding met
    met-on {n} {before} {after} = fine_on (λ found. Met r p found before after n) e (cond inside way []) []

    pub met_off : {why : Refusal} (out : List ℕ) → got ≡ Err why → Met r p (met check inside way) out out 0
    unfolding met
    met_off out told = fine_off (λ found. Met r p found out out 0) e (cond inside way []) [] told (met_none out)
