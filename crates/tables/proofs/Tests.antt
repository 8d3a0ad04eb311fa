-- From a flag that the code holds to the test that a definition makes.
use mathlib.Core.Path.{◌≡◌, sym}
use mathlib.Core.Bool.{Bool, true, false, not, false≢true}
use Rattle.std.specs.Prelude.{Err}
use Rattle.tables.specs.declared.refusal.Refusal.{Refusal}
use Rattle.tables.specs.Checks.{Checked, Fine, test, ◌then◌}

-- a test that the code finds to hold is fine, one that it finds to fail gives its refusal
pub passed : {flag b : Bool} (c : Checked) → flag ≡ b → not flag ≡ false → test b c ≡ Fine
passed {flag = true} c e n = rw (← e)
passed {flag = false} c e n = absurd (false≢true (sym n))

pub failed : {flag b : Bool} (c : Checked) → flag ≡ b → not flag ≡ true → test b c ≡ c
failed {flag = true} c e n = absurd (false≢true n)
failed {flag = false} c e n = rw (← e)

-- the same of two tests, one after the other
module _ {flag b : Bool} (c : Checked) (e : flag ≡ b) where
  pub first_failed : (why : Refusal) → not flag ≡ true → (test b (Err why) then c) ≡ Err why
  first_failed why h = rw (failed (Err why) e h)

  pub first_passed : (d : Checked) → not flag ≡ false → (test b d then c) ≡ c
  first_passed d h = rw (passed d e h)
