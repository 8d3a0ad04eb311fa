-- An order that keeps the plan of an accepted batch keeps to its slots, and back.
use Rattle.std.specs.Prelude.{Ok}
use Rattle.tables.specs.Checks.{Fine}
use Prim.Native.Nat.{ℕ}
use mathlib.Core.Path.{◌≡◌, sym, ◌∙◌}
use mathlib.Core.Bool.{Bool}
use mathlib.Core.List.{List}
use Rattle.tables.specs.Words.{Bits16}
use Rattle.tables.proofs.Accepted.{then_first}
use Rattle.conflict.specs.Conflict.{Update}
use Rattle.order.specs.Model.{Order}
use Rattle.order.specs.Fitting.{DecidedBy}
use Rattle.batch_check.specs.Batches.{batch_of, batch_check, plan_check}
use Rattle.batch_plan.specs.Batch.{PlanOf}
use Rattle.batch_plan.proofs.Laws.{accepted_slot}
use Rattle.demands.specs.Demands.{Keeps}

module _ {Related : List ℕ → Update → Type 0} {test : List ℕ → Update → Bool} (decides : DecidedBy Related test)
    (b before plan : List ℕ) (n : ℕ) (words : Bits16 b) (h : PlanOf Related b before plan (Ok n)) where
  accepted : batch_check b ≡ Fine
  unfolding plan_check
  accepted = then_first (batch_check b) _ h.0

  pub keeps_order : {o : List ℕ} → Keeps plan (batch_of b) o → Order test (batch_of b) o
  keeps_order k =
      record {
        every = k.every;
        once = k.once;
        only = k.only;
        in_sequence = k.in_sequence;
        after_slot = λ at up e. k.after_slot at up (e ∙ sym ((accepted_slot decides b words accepted at _).0 (h.2.words at)));
        before_later = k.before_later;
      }

  pub order_keeps : {o : List ℕ} → Order test (batch_of b) o → Keeps plan (batch_of b) o
  order_keeps k =
      record {
        every = k.every;
        once = k.once;
        only = k.only;
        in_sequence = k.in_sequence;
        after_slot = λ at up e. k.after_slot at up (e ∙ (accepted_slot decides b words accepted at _).0 (h.2.words at));
        before_later = k.before_later;
      }
