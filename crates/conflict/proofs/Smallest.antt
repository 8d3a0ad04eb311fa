-- What decides a conflict: a way whose chain is a witness, and that has no more labels than the way of some present node of any document on
-- which the sets differ. Its number of labels is the number of nodes of a smallest witness, and there is only one such number.
use Prim.Native.Nat.{ℕ, ◌<◌, ◌≤◌}
use native.Mathlib.Nat.{eq-zero-or-pos, le_antisymm}
use native.Mathlib.Omega.{arith}
use mathlib.Core.Path.{◌≡◌, refl, sym, ◌∙◌}
use mathlib.Core.Bool.{Bool, true, false, true≢false, false≢true}
use mathlib.Core.List.{List}
use mathlib.Core.Logic.{⊎_elim}
use lib.ListN.{length}
use Rattle.tables.specs.Words.{nodes}
use Rattle.tables.specs.Patterns.{Pattern}
use Rattle.tables.specs.Documents.{Doc, bare, present, Sound}
use Rattle.selection.specs.Lists.{count}
use Rattle.selection.specs.Ways.{selected}
use Rattle.selection.proofs.Selecting.{selecting}
use Rattle.selection.proofs.Lists.{count_most}
use Rattle.conflict.specs.Conflict.{Update, after, Differs, lost, gained, Witness, Conflict, Smallest}
use Rattle.conflict.specs.Crossing.{chain}
use Rattle.conflict.proofs.Steps.{Within}
use Rattle.conflict.proofs.Chains.{nodes-chain}
use Rattle.conflict.proofs.Depth.{Reached, reached-within}

-- two numbers of nodes of a smallest witness are equal
pub smallest_one : {r : List ℕ} {u : Update} {m n : ℕ} → Smallest r u m → Smallest r u n → m ≡ n
smallest_one {r} {u} {m} {n} a b = le_antisymm (no_more a b) (no_more b a)
  where
    no_more : {i j : ℕ} → Smallest r u i → Smallest r u j → i ≤ j
    no_more {i} {j} c d =
        ⊎_elim
        (λ (e : j ≡ 0).
        ⊎_elim
        (λ (q : i ≡ 0). omega arith)
        (λ (q : 0 < i). absurd (d.none e (record { tree = (c.some q).0; shows = (c.some q).1 })))
        (eq-zero-or-pos i))
        (λ (h : 0 < j). omega (arith, c.fewest (d.some h).0 (d.some h).1, (d.some h).2))
        (eq-zero-or-pos j)

-- what is not true is false
pub not_true_false : {b : Bool} → (b ≡ true → ⊥) → b ≡ false
not_true_false {b = true} h = absurd (h refl)
not_true_false {b = false} h = refl

never_apart : (a b : Bool) → ((a ≡ b → ⊥) → ⊥) → a ≡ b
never_apart true true h = refl
never_apart true false h = absurd (h true≢false)
never_apart false true h = absurd (h false≢true)
never_apart false false h = refl

-- the sets differ exactly where selection by the run does
module _ {r : List ℕ} {u : Update} {d : Doc} (pattern : Pattern r) (sound : Sound d) (sound' : Sound (after u d)) where
  -- what a difference tells, with a motive
  pub by_differs : {X : Type 0} → Differs r u d
      → ((v : ℕ) → selected r d v ≡ true → selected r (after u d) v ≡ false → X)
      → ((v : ℕ) → selected r d v ≡ false → selected r (after u d) v ≡ true → X)
      → X
  by_differs (lost v here gone) f g = f v ((selecting pattern sound v).1 here) (not_true_false (λ e. gone ((selecting pattern sound' v).0 e)))
  by_differs (gained v gone here) f g = g v (not_true_false (λ e. gone ((selecting pattern sound v).0 e))) ((selecting pattern sound' v).1 here)

  -- a node that is selected on one side only
  pub differs_at : (v : ℕ) → (selected r (after u d) v ≡ selected r d v → ⊥) → Differs r u d
  differs_at v apart = go (selected r d v) (selected r (after u d) v) refl refl
    where
      go : (a b : Bool) → selected r d v ≡ a → selected r (after u d) v ≡ b → Differs r u d
      go true true e q = absurd (apart (cc))
      go true false e q = lost v ((selecting pattern sound v).0 e) (λ s. false≢true (sym q ∙ (selecting pattern sound' v).1 s))
      go false true e q = gained v (λ s. false≢true (sym e ∙ (selecting pattern sound v).1 s)) ((selecting pattern sound' v).0 q)
      go false false e q = absurd (apart (cc))

-- the way decides whether r and u conflict
pub record Decides (r : List ℕ) (u : Update) (way : List ℕ) : Type 0 where
  pub witness : 0 < length way → Witness r u (chain way)
  pub reached : (d : Doc) → Sound d → Differs r u d → Reached (length way) d

module _ {r : List ℕ} {u : Update} {way : List ℕ} (decides : Decides r u way) where
  -- a sound document on which the sets differ has at least as many present nodes as the way has labels
  pub differs_within : {d : Doc} → Sound d → Differs r u d → Within (length way) (count (present d) d.used)
  differs_within {d} sound differs = reached-within sound (decides.reached d sound differs)

  -- any sound document on which the sets differ shows a conflict
  pub differs_conflict : {d : Doc} → Sound d → Differs r u d → Conflict r u
  differs_conflict {d} sound differs =
      record { tree = chain way; shows = decides.witness (differs_within sound differs).some }

  -- and the number of labels of the way is the number of nodes of a smallest witness
  pub smallest : Smallest r u (length way)
  smallest = record {
    none = λ e c. omega (arith, differs_within c.shows.sound c.shows.differs);
    some = λ h. (chain way, decides.witness h, nodes-chain way);
    fewest = λ t w. omega (arith, differs_within w.sound w.differs, count_most (present (bare t)) (nodes t));
  }

  -- where there is no conflict, an update that leaves a sound document sound changes no selection
  pub unchanged : (Conflict r u → ⊥) → Pattern r → {d : Doc} → Sound d → Sound (after u d) → (v : ℕ) → selected r (after u d) v ≡ selected r d v
  unchanged clear pattern sound sound' v =
      never_apart _ _ (λ apart. clear (differs_conflict sound (differs_at pattern sound sound' v apart)))
