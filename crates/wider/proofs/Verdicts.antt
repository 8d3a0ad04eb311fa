-- What was shown of an accepted pair holds of an accepted wider one; so a verdict that said conflict says conflict, and a deep one that said yes says yes.
use Rattle.std.specs.Prelude.{Bool, true, false, Option, Some, None, Result, Ok, Err}
use Rattle.tables.specs.declared.refusal.Refusal.{Refusal}
use Prim.Native.Nat.{ℕ, ◌*◌, ◌<◌, ◌≤◌}
use mathlib.Core.Path.{◌≡◌, refl}
use mathlib.Core.List.{List}
use native.Mathlib.Omega.{arith}
use lib.ListN.{length, take}
use Rattle.tables.specs.Documents.{Doc, Sound}
use Rattle.tables.proofs.Accepted.{never}
use Rattle.conflict.specs.Conflict.{Update, Differs, Witness, Conflict, Smallest, Deep}
use Rattle.order.specs.Fitting.{Fit, FitUpdate}
use Rattle.verdict.specs.Promise.{NodeVerdict}
use Rattle.verdict_deep.specs.Promise.{DeepVerdict}
use Rattle.wider.specs.Wider.{Widened}
use Rattle.wider.proofs.Conflicts.{differs_wider, witness_wider, conflict_wider, deep_wider, smallest_wider}
use Rattle.wider.proofs.Accepting.{fit_read, fit_update, room_wider}

module _ {r s : List ℕ} {u v : Update} (w : Widened r u s v) where
  reads : Fit r
  reads = fit_read r u w.narrow

  update : FitUpdate u
  update = fit_update r u w.narrow

  wider_update : FitUpdate v
  wider_update = fit_update s v w.wide

  -- on a document, by a witness, by the relations
  pub accepted_differs : {d : Doc} → Sound d → Differs r u d → Differs s v d
  accepted_differs = differs_wider reads w.wider.read update wider_update w.wider.update

  pub accepted_witness : {t : List ℕ} → Witness r u t → Witness s v t
  accepted_witness = witness_wider reads update wider_update w.wider

  pub accepted_conflict : Conflict r u → Conflict s v
  accepted_conflict = conflict_wider reads update wider_update w.wider

  pub accepted_deep : Deep r u → Deep s v
  accepted_deep = deep_wider reads update wider_update w.wider

  pub accepted_smallest : {m n : ℕ} → Smallest r u m → Smallest s v n → 0 < m → (0 < n) × (n ≤ m)
  accepted_smallest = smallest_wider reads update wider_update w.wider

  -- by a verdict into an output that is no shorter: its witness has no more nodes
  pub verdict_wider : (before after before' after' : List ℕ) (n : ℕ) (answer : Result (Option ℕ) Refusal) → NodeVerdict r u before after (Ok (Some n)) →
      NodeVerdict s v before' after' answer → length before ≤ length before' → (m : ℕ) × (answer ≡ Ok (Some m)) × (m ≤ n)
  verdict_wider before after before' after' n (Err why) found h long =
      never h.given (room_wider w.wider w.wide (length before) (length before') found.fine long)
  verdict_wider before after before' after' n (Ok None) found h long =
      absurd (h.none (record { tree = take (2 * n) after; shows = accepted_witness found.witness }))
  verdict_wider before after before' after' n (Ok (Some m)) found h long =
      (m, refl, omega (arith, h.fewest (take (2 * n) after) (accepted_witness found.witness), found.count))

  -- by a deep verdict
  pub deeply_wider : (answer : Result Bool Refusal) → DeepVerdict r u (Ok true) → DeepVerdict s v answer → answer ≡ Ok true
  deeply_wider (Err why) found h = never h w.wide.fine
  deeply_wider (Ok false) found h = absurd (h.none (accepted_deep found.some))
  deeply_wider (Ok true) found h = refl
