-- A check whose answer the code goes on with, held against `then` and `where_fine`.
use mathlib.Core.Path.{◌≡◌, ◌∙◌, ap}
use Rattle.tables.specs.declared.refusal.Refusal.{Refusal}
use Rattle.tables.specs.Checks.{Checked}
use Rattle.std.specs.Prelude.{Result, Ok, Err, IsErr, IsErrAnd}
use Rattle.std.proofs.lemmas.Result.{err_from_is_err_and}
use Rattle.tables.specs.Checks.{Fine}
use Rattle.tables.specs.Checks.{◌then◌, where_fine}

-- a `?` hands on the refusal as it is
pub handed : {A : Type 0} {answer : Result A Refusal} {why : Refusal} → IsErr answer × IsErrAnd answer (λ e. e ≡ why) → answer ≡ Err why
handed {answer = answer} e = let found = err_from_is_err_and answer e.1 in found.1 ∙ ap Err found.2

-- a check whose answer the code goes on with: the rest only where it is fine
module _ {got first : Checked} (rest : Checked) (e : got ≡ first) where
  pub then_on : {answer : Checked} → got ≡ Fine → answer ≡ rest → answer ≡ (first then rest)
  then_on told a = rw (← e, told) a

  pub then_off : {r : Refusal} → got ≡ Err r → Err r ≡ (first then rest)
  then_off told = rw (← e, told)

-- the same for what holds of this where the check is fine, and of that where it is not
module _ {A : Type 0} (P : A → Type 0) {got check : Checked} (e : got ≡ check) (this that : A) where
  pub fine_on : got ≡ Fine → P this → P (where_fine check this that)
  fine_on told h = rw (← e, told) h

  pub fine_off : {r : Refusal} → got ≡ Err r → P that → P (where_fine check this that)
  fine_off told h = rw (← e, told) h

-- and back, where it is fine
pub fine_back : {A : Type 0} (P : A → Type 0) {check : Checked} (this that : A) → check ≡ Fine → P (where_fine check this that) → P this
fine_back P this that fine h = rw fine at h
