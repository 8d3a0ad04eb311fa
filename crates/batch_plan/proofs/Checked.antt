-- What the plan asks, and what it promises, from the check that the code matches on.
use Rattle.std.specs.Prelude.{Result, Ok, Err}
use Prim.Native.Nat.{ℕ}
use mathlib.Core.Path.{◌≡◌}
use mathlib.Core.List.{List}
use native.Mathlib.Omega.{arith}
use lib.ListN.{length}
use Rattle.tables.specs.Checks.{output_check, Fine}
use Rattle.tables.specs.declared.refusal.Refusal.{Refusal}
use Rattle.tables.proofs.Accepted.{then_first, then_second, output_room}
use Rattle.batch_check.specs.Batches.{batch_of, batch_check, plan_check, counted_of}
use Rattle.batch_check.proofs.Left.{got_why, got_fine, got_count}
use Rattle.batch_plan.specs.Walking.{Planning}

module _ (b : List ℕ) (words : ℕ) {got : Result ℕ Refusal} (e : got ≡ counted_of (plan_check b words) (length (batch_of b))) where
  pub plan_refused : {r : Refusal} → got ≡ Err r → plan_check b words ≡ Err r
  plan_refused told = got_why (plan_check b words) (length (batch_of b)) e told

  module _ {n : ℕ} (told : got ≡ Ok n) where
    pub plan_fine : plan_check b words ≡ Fine
    plan_fine = got_fine (plan_check b words) (length (batch_of b)) e told

    pub plan_count : n ≡ length (batch_of b)
    plan_count = got_count (plan_check b words) (length (batch_of b)) e told

    pub plan_asks : Planning b n words
    unfolding plan_check
    plan_asks = record {
      accepted = then_first (batch_check b) (output_check (length (batch_of b)) words) plan_fine;
      frames = plan_count;
      room = omega (
        arith,
        plan_count,
        output_room (length (batch_of b)) words (then_second (batch_check b) (output_check (length (batch_of b)) words) plan_fine),
      );
    }
