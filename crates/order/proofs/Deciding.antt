-- There are tests that decide conflicts and deep ones: whether the shortest way on which they show has a label.
use Prim.Native.Nat.{ℕ}
use native.Mathlib.Nat.{eq-zero-or-pos}
use borrow.Author.Tests.{ltb-true, lt-ltb}
use mathlib.Core.Path.{◌≡◌}
use mathlib.Core.Bool.{Bool, true}
use mathlib.Core.List.{List}
use mathlib.Core.Logic.Iff
use mathlib.Core.Logic.{◌↔◌, ⊎_elim}
use lib.Dec.{ltb}
use lib.ListN.{length}
use Rattle.conflict.specs.Conflict.{Update, delete, insert, Conflict, Deep, Smallest}
use Rattle.conflict.specs.Crossing.{delete_way, insert_way, delete_deep, insert_deep}
use Rattle.conflict.proofs.Deletes.{smallest_delete}
use Rattle.conflict.proofs.Inserts.{smallest_insert}
use Rattle.conflict.proofs.Both.{deep_delete_decided, deep_insert_decided}
use Rattle.order.specs.Fitting.{Fit, FitUpdate, DecidedBy}

-- the number of nodes of a smallest witness, 0 for none
abbrev pub fewest : List ℕ → Update → ℕ
fewest r (delete p) = length (delete_way r p)
fewest r (insert p x) = length (insert_way r p x)

fewest_smallest : (r : List ℕ) (u : Update) → Fit r → FitUpdate u → Smallest r u (fewest r u)
fewest_smallest r (delete p) reads fit = smallest_delete r p reads.pattern fit.two reads.labels fit.fit.labels
fewest_smallest r (insert p x) reads fit = smallest_insert r p x reads.pattern fit.tree reads.labels fit.fit.labels

abbrev pub conflicting : List ℕ → Update → Bool
conflicting r u = ltb 0 (fewest r u)

some_conflict : {r : List ℕ} {u : Update} {n : ℕ} → Smallest r u n → (ltb 0 n ≡ true) ↔ Conflict r u
some_conflict {r} {u} {n} s = (to, of)
  where
    to : ltb 0 n ≡ true → Conflict r u
    to e = record { tree = (s.some (ltb-true 0 n e)).0; shows = (s.some (ltb-true 0 n e)).1 }

    of : Conflict r u → ltb 0 n ≡ true
    of c = ⊎_elim (λ (e : n ≡ 0). absurd (s.none e c)) (lt-ltb 0 n) (eq-zero-or-pos n)

-- so the slots that demand 3 speaks of can be computed
pub conflicting_decides : DecidedBy Conflict conflicting
conflicting_decides = record { exactly = λ {r} {u} reads fit. some_conflict (fewest_smallest r u reads fit) }

-- whether they conflict deeply
abbrev pub deeply : List ℕ → Update → Bool
deeply r (delete p) = delete_deep r p
deeply r (insert p x) = insert_deep r p x

deeply_exactly : (r : List ℕ) (u : Update) → Fit r → FitUpdate u → (deeply r u ≡ true) ↔ Deep r u
deeply_exactly r (delete p) reads fit =
    Iff.symm (deep_delete_decided r p reads.pattern fit.fit.pattern fit.two reads.labels fit.fit.labels)
deeply_exactly r (insert p x) reads fit =
    Iff.symm (deep_insert_decided r p x reads.pattern fit.fit.pattern fit.tree reads.labels fit.fit.labels)

pub deeply_decides : DecidedBy Deep deeply
deeply_decides = record { exactly = λ {r} {u} reads fit. deeply_exactly r u reads fit }
