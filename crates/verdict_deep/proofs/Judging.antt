-- From the check and the test to the deep verdict.
use Rattle.std.specs.Prelude.{Result, Ok, Err}
use mathlib.Core.Path.{◌≡◌, sym, ◌∙◌}
use mathlib.Core.Bool.{Bool, false}
use Rattle.tables.specs.declared.refusal.Refusal.{Refusal}
use Rattle.tables.specs.Checks.{where_fine, Checked, Fine}
use Rattle.verdict_ways.proofs.Allowed.{granted_test}

-- the deep verdict of a check and a test
unfoldable pub deeply_of : Checked → Bool → Result Bool Refusal
deeply_of (Ok tt) b = Ok b
deeply_of (Err why) b = Err why

module _ {got : Checked} (check : Checked) (e : got ≡ check) where
  pub deeply-on : {answer : Result Bool Refusal} {given : Bool} (b : Bool) → got ≡ Fine → given ≡ where_fine check b false → answer ≡ Ok given → answer ≡ deeply_of check b
  unfolding deeply_of
  deeply-on b told d a =
      let fine : check ≡ Fine = sym e ∙ told in
      rw (fine, ← granted_test fine d) a

  pub deeply_off : {why : Refusal} (b : Bool) → got ≡ Err why → Err why ≡ deeply_of check b
  unfolding deeply_of
  deeply_off b told = rw (← e, told)
