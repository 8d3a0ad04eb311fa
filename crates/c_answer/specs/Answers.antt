-- The numbers that go out: a refusal as its number, table and place, else values.
use Rattle.std.specs.Prelude.{ℕ, ◌≡◌}
use Rattle.tables.specs.declared.refusal.Refusal.{Refusal}
use Rattle.tables.specs.Refusals.{number}
use Rattle.c_answer.specs.declared.answer.Answer.{Answer}

-- a refusal: its number, the table at fault and the place, and no values
abbrev pub refusing : Refusal → Answer
refusing r =
    record {
      refusal = number r.reason;
      table = r.table;
      place = r.place;
      first = 0;
      second = 0;
      third = 0;
      fourth = 0;
    }

-- values, and no refusal
abbrev pub giving : ℕ → ℕ → ℕ → ℕ → Answer
giving a b c d = record { refusal = 0; table = 0; place = 0; first = a; second = b; third = c; fourth = d }

-- the operation's promise holds of some answer, and these are its numbers
pub record Told {E : Type 0} (numbers : E → Answer) (promise : E → Type 0) (a : Answer) : Type 0 where
  pub answer : E
  pub promised : promise answer
  pub shown : a ≡ numbers answer
