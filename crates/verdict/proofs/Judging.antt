-- From the number of a way and the check to the verdict.
use Rattle.std.specs.Prelude.{Option, Some, None, Result, Ok, Err}
use Prim.Native.Nat.{ℕ, ◌*◌}
use mathlib.Core.Path.{◌≡◌}
use mathlib.Core.List.{List, ◌++◌}
use lib.ListN.{length, drop}
use Rattle.tables.specs.declared.refusal.Refusal.{Refusal}
use Rattle.tables.specs.Checks.{where_fine, Checked, Fine}
use Rattle.conflict.specs.Crossing.{chain}
use Rattle.outcomes.specs.Numbers.{found_of}
use Rattle.verdict_ways.specs.Ways.{WayWritten}

-- the verdict of a check and a way, and the output after it: the way's chain at the front, where there is one; a refusal changes nothing
unfoldable pub verdict_of : Checked → ℕ → Result (Option ℕ) Refusal
verdict_of (Ok tt) n = Ok (found_of n)
verdict_of (Err why) n = Err why

unfoldable pub output_of : Checked → List ℕ → List ℕ → List ℕ
output_of check way out = where_fine check (chain way ++ drop (2 * length way) out) out

pub record Judged (check : Checked) (way before after : List ℕ) (answer : Result (Option ℕ) Refusal) : Type 0 where
  pub says : answer ≡ verdict_of check (length way)
  pub writes : after ≡ output_of check way before

module _ {got : Checked} (check : Checked) (e : got ≡ check) where
  pub judged_on : {answer : Result (Option ℕ) Refusal} {n : ℕ} {way before after : List ℕ} → got ≡ Fine → WayWritten way before after n → answer ≡ Ok (found_of n) → Judged check way before after answer
  unfolding verdict_of output_of
  judged_on told w a =
      record {
        says = rw (← e, told, ← w.count) a;
        writes = rw (← e, told, ← w.count) w.words;
      }

  pub judged_off : {why : Refusal} (way out : List ℕ) → got ≡ Err why → Judged check way out out (Err why)
  unfolding verdict_of output_of
  judged_off way out told = record { says = rw (← e, told); writes = rw (← e, told) }
