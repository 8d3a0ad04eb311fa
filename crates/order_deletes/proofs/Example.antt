-- Each count alone depends on the order: what the first delete takes with it, the second does not find.
use Rattle.std.specs.Prelude.{Ok}
use Prim.Native.Nat.{ℕ}
use mathlib.Core.Path.{◌≡◌, refl}
use mathlib.Core.List.{List, [], ◌∷◌}
use native.Mathlib.Omega.{arith}
use Rattle.identities.specs.Documents.{Document}
use Rattle.identities.specs.Checks.{identity_right, identity_check, identities_check, whole_check}
use Rattle.tables.specs.Checks.{pattern_check, size_check, each, axis_check, axis_right, node_check, parent_right, used_right, used_check, shape_check, mark_right, mark_check, document_check}
use Rattle.selection.specs.Lists.{tab, count}
use Rattle.selection.specs.Ways.{ups, up, runs, run}
use Rattle.selection.specs.Operations.{hits, struck, deleted, removed}
use Rattle.doc_updates.specs.Updating.{delete_check}
use Rattle.order_deletes.specs.Deletes.{Deletes, over, next, abc, a/b, a//c}

pub above_first : Deletes (a/b ∷ a//c ∷ []) abc (Ok 2 ∷ Ok 0 ∷ []) (0 ∷ 1 ∷ 1 ∷ [])
unfolding delete_check whole_check identities_check identity_check identity_right document_check shape_check used_check used_right each node_check parent_right mark_check mark_right pattern_check size_check axis_check axis_right deleted removed struck hits run runs up ups tab count
above_first = next (record { answered = refl; marks = refl }) (next (record { answered = refl; marks = refl }) over)

pub below_first : Deletes (a//c ∷ a/b ∷ []) abc (Ok 1 ∷ Ok 1 ∷ []) (0 ∷ 1 ∷ 1 ∷ [])
unfolding delete_check whole_check identities_check identity_check identity_right document_check shape_check used_check used_right each node_check parent_right mark_check mark_right pattern_check size_check axis_check axis_right deleted removed struck hits run runs up ups tab count
below_first = next (record { answered = refl; marks = refl }) (next (record { answered = refl; marks = refl }) over)

-- so it is no law that a delete counts the same in either order, of no kind of documents that this one is of
pub not_each : {Kind : Document → Type 0} → Kind abc →
    ((p q : List ℕ) (d : Document) → Kind d → (i j k l : ℕ) (last end : List ℕ) →
    Deletes (p ∷ q ∷ []) d (Ok i ∷ Ok j ∷ []) last → Deletes (q ∷ p ∷ []) d (Ok k ∷ Ok l ∷ []) end → i ≡ l) → ⊥
not_each kind law = let e : ◌≡◌ {A = ℕ} 2 1 = law a/b a//c abc kind 2 0 1 1 (0 ∷ 1 ∷ 1 ∷ []) (0 ∷ 1 ∷ 1 ∷ []) above_first below_first in absurd (omega arith)
