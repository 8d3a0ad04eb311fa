-- The branches of the code, held against those of the definitions.
use Prim.Native.Nat.{ℕ, ◌/◌, min, ◌<◌, ◌≤◌}
use mathlib.Core.Path.{◌≡◌}
use lib.Dec.{eqb, leb}
use borrow.Author.Tests.{ne_eqb, le-leb, lt-leb}
use Rattle.tables.specs.Limits.{used_limit, identity_limit}
use Rattle.tables.specs.Documents.{capacity}
use Rattle.tables.specs.Checks.{test, refuse, Checked, Fine}
use Rattle.selection.proofs.Rows.{bit_most}
use Rattle.doc_room.specs.Ticking.{ticked}

module _ (b : ℕ) where
  pub one_on : b ≡ 1 → 1 ≡ ticked b
  unfolding ticked
  one_on h = rw h

  pub one_off : (b ≡ 1 → ⊥) → 0 ≡ ticked b
  unfolding ticked
  one_off h = rw (ne_eqb b 1 h)

-- a bit
pub ticked_most : (b : ℕ) {x : ℕ} → x ≡ ticked b → x ≤ 1
unfolding ticked
ticked_most b e = rw e (bit_most (eqb b 1))

-- the least of 4,096, half the table's words, the marks and the identities, found in three steps
module _ (end words marks ids : ℕ) {half most least : ℕ} (e : half ≡ min (words / 2) marks) (f : most ≡ min used_limit half) (g : least ≡ min most ids) where
  least_is : least ≡ min (capacity words marks) ids
  least_is = rw (g, f, e)

  pub room_none : {answer : Checked} → least < end → answer ≡ refuse 11 4 0 → answer ≡ test (leb end (min (capacity words marks) ids)) (refuse 11 4 0)
  room_none h a = rw (← least_is, lt-leb end least h) a

  pub room_enough : end ≤ least → Fine ≡ test (leb end (min (capacity words marks) ids)) (refuse 11 4 0)
  room_enough h = rw (← least_is, le-leb end least h)

-- the next identity
module _ (next : ℕ) where
  pub names_none : {answer : Checked} → identity_limit < next → answer ≡ refuse 16 5 0 → answer ≡ test (leb next identity_limit) (refuse 16 5 0)
  names_none h a = rw (lt-leb next identity_limit h) a

  pub names_enough : next ≤ identity_limit → Fine ≡ test (leb next identity_limit) (refuse 16 5 0)
  names_enough h = rw (le-leb next identity_limit h)
