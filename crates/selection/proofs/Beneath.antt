-- What lies below a node after an insert: the nodes that did, and the copies under the update points at or below it.
use Prim.Native.Nat.{ℕ, zero, suc, ◌+◌, ◌<◌}
use mathlib.Core.Path.{◌≡◌, sym, ◌∙◌}
use mathlib.Core.Bool.{true}
use mathlib.Core.List.{List}
use mathlib.Core.Logic.{◌↔◌, inl, inr, ⊎_map}
use native.Mathlib.Omega.{arith}
use lib.ListN.{get_or}
use Rattle.tables.specs.Words.{nodes, parent}
use Rattle.tables.specs.Documents.{Doc, bare, Sound}
use Rattle.selection.specs.Embeddings.{Child, Below, Below.one, Below.more, AtOrBelow}
use Rattle.selection.specs.Ways.{selected}
use Rattle.selection.specs.Operations.{copied_parent, points, copies, inserted}
use Rattle.selection.proofs.Up.{Falls}
use Rattle.selection.proofs.Keeping.{Kept, Copy}
use Rattle.selection.proofs.Grafting.{copied_below}
use Rattle.selection.proofs.Inserting.{Placed, old, copied, inserted_placed, inserted_kept, inserted_copy, point_selected, selected_used}

-- where parents fall below n and are the same in another table, a node below n lies below the same nodes there
below_same : {t s : List ℕ} {n : ℕ} → Falls t n → ((v : ℕ) → v < n → parent s v ≡ parent t v) → {u v : ℕ} → v < n → Below t u v → Below s u v
below_same falls same {v} h (one c) = one (record { not_root = c.not_root; under = same v h ∙ c.under })
below_same falls same {v} h (more b c) =
    more
    (below_same falls same (omega (arith, falls v c.not_root h, c.under)) b)
    (record { not_root = c.not_root; under = same v h ∙ c.under })

-- a kept node is below the nodes that it was below
pub kept_below : {d e : Doc} → Sound d → Kept d e → {u v : ℕ} → v < d.used → Below d.rows u v ↔ Below e.rows u v
kept_below {d} {e} sound kept h = (
  below_same sound.parents kept.parents h,
  below_same (λ v k l. rw (kept.parents v l) (sound.parents v k l)) (λ v l. sym (kept.parents v l)) h,
)

module _ {x way : List ℕ} {q base : ℕ} {e : Doc} (tree : Sound (bare x)) (copy : Copy x way q base e) where
  -- what node k of the copy is a child of: the point for node 0, a node of the copy for any other
  hung : {u v : ℕ} → Child e.rows u v → (k : ℕ) → k < nodes x → v ≡ base + k → copied_parent x q base k ≡ u
  hung c k h here = sym (copy.parents k h) ∙ rw here at c.under

  hung_later : {u v : ℕ} → Child e.rows u v → (k : ℕ) → 0 < k → k < nodes x → v ≡ base + k → base + parent x k ≡ u
  hung_later c k some h here = sym (copied_below x q base k some) ∙ hung c k h here

  -- an older node that has a node of the copy below it has the copy's point at or below it
  climb : {u v : ℕ} → u < base → Below e.rows u v → (k : ℕ) → k < nodes x → v ≡ base + k → AtOrBelow e.rows u q
  climb low (one c) zero h here = inl (hung c 0 h here)
  climb low (one c) (suc k) h here = absurd (omega (arith, hung_later c (suc k) (omega arith) h here))
  climb low (more b c) zero h here = inr (rw (sym (hung c 0 h here)) at b)
  climb low (more b c) (suc k) h here =
      climb low b (parent x (suc k)) (omega (arith, tree.parents (suc k) (omega arith) h)) (sym (hung_later c (suc k) (omega arith) h here))

module _ (p x : List ℕ) (d : Doc) (tree : Sound (bare x)) (sound : Sound d) where
  -- a node that lies below an old one after the insert is old, or is in a copy, and then the old one has an update point at or below it
  pub inserted_below : {X : Type 0} {u v : ℕ} → u < d.used → v < (inserted p x d).used → Below (inserted p x d).rows u v
      → (v < d.used → X)
      → ((q : ℕ) → selected p d q ≡ true → AtOrBelow d.rows u q → X)
      → X
  inserted_below {X} {u} {v} low h b f g = go (inserted_placed p x d v h)
    where
      go : Placed x d.used (copies p d) v → X
      go (old l) = f l
      go (copied c k l m here) =
          let q : ℕ = get_or (points p d) c 0 in
          let chosen : selected p d q ≡ true = point_selected p d c l in
          g q chosen
          (⊎_map (λ same. same) (kept_below sound (inserted_kept p x d tree sound) (selected_used p d q chosen)).1
          (climb tree (inserted_copy p x d tree sound c l) (omega arith) b k m here))
