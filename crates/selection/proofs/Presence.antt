-- A node is present exactly if it is used and its mark is 0.
use Prim.Native.Nat.{ℕ, ◌<◌}
use mathlib.Core.Path.{◌≡◌}
use mathlib.Core.Bool.{true}
use borrow.Author.Tests.{ltb-true, lt-ltb, eq-eqb, eqb-true}
use lib.Dec.{ltb, eqb}
use Rattle.tables.specs.Documents.{Doc, mark, present}
use Rattle.selection.proofs.Runs.{both}

pub present_used : (d : Doc) (v : ℕ) → present d v ≡ true → v < d.used
present_used d v e = both (ltb v d.used) (eqb (mark d v) 0) e (λ a b. ltb-true v d.used a)

pub present-mark : (d : Doc) (v : ℕ) → present d v ≡ true → mark d v ≡ 0
present-mark d v e = both (ltb v d.used) (eqb (mark d v) 0) e (λ a b. eqb-true (mark d v) 0 b)

pub is_present : (d : Doc) (v : ℕ) → v < d.used → mark d v ≡ 0 → present d v ≡ true
is_present d v h e = rw (lt-ltb v d.used h) (eq-eqb (mark d v) 0 e)

-- a node that two documents use and mark alike is present in both or in none
pub present-same : (c d : Doc) (v : ℕ) → v < c.used → v < d.used → mark c v ≡ mark d v → present c v ≡ present d v
present-same c d v h k e = rw (lt-ltb v c.used h, lt-ltb v d.used k, e)
