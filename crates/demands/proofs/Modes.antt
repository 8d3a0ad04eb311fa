-- Demand 3 over what a read is shown, by a relation that is decided; and how the two modes stand to each other.
use Rattle.std.specs.Prelude.{Result}
use Rattle.tables.specs.declared.refusal.Refusal.{Refusal}
use Prim.Native.Nat.{ℕ, ◌≤◌}
use mathlib.Core.List.{List}
use mathlib.Core.Logic.{◌↔◌, inl}
use Rattle.identities.specs.Documents.{Document, SoundDocument}
use Rattle.identities.specs.Showing.{SameIdentities, SameIdentitiesBelow}
use Rattle.identities.proofs.Numbered.{identities_not_below}
use Rattle.conflict.specs.Conflict.{Update, Conflict, Deep}
use Rattle.order.specs.Frames.{Frame}
use Rattle.batch_mode.specs.Modes.{mode_check, mode_of}
use Rattle.batch_plan.specs.Batch.{PlanIn, PlanOf, Plan, SlotIs}
use Rattle.batch_plan.proofs.Slots.{slot_implied}

-- a mode by its number
pub named_node : (b before after : List ℕ) (answer : Result ℕ Refusal) → PlanIn 1 b before after answer ↔ PlanOf Conflict b before after answer
unfolding mode_check mode_of
named_node b before after answer = ((λ h. h), (λ h. h))

pub named_deep : (b before after : List ℕ) (answer : Result ℕ Refusal) → PlanIn 2 b before after answer ↔ Plan b before after answer
unfolding mode_check mode_of
named_deep b before after answer = ((λ h. h), (λ h. h))

-- a conflict is a deep one, so the nearest deep one is no farther
pub deeper : (b : List (Frame (List ℕ) Update)) (k : ℕ) (r : List ℕ) (v w : ℕ) → SlotIs Conflict b k r v → SlotIs Deep b k r w → v ≤ w
deeper b k r v w = slot_implied (λ u c. inl c)

pub not_nodes : ((r : List ℕ) (d e : Document) → SoundDocument d → SoundDocument e → SameIdentities r d e → SameIdentitiesBelow r d e) → ⊥
not_nodes all =
    let found = identities_not_below in
    found.6 (all found.0 found.1 found.2 found.3 found.4 found.5)
