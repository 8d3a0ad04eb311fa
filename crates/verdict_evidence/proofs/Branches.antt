-- The branches of the code, held against those of the definitions.
use Prim.Native.Nat.{ℕ, ◌<◌, ◌≤◌}
use mathlib.Core.Path.{◌≡◌}
use mathlib.Core.List.{List}
use lib.Dec.{eqb}
use lib.ListN.{get_or}
use borrow.Author.Tests.{lt-ltb, le-ltb}
use Rattle.doc_updates.specs.Asking.{chosen}
use Rattle.verdict_evidence.specs.Finding.{within}

-- a number below n, and one that is not
module _ (n v : ℕ) where
  pub within_in : v < n → v ≡ within n v
  unfolding within
  within_in h = rw (lt-ltb v n h)

  pub within_out : n ≤ v → 0 ≡ within n v
  unfolding within
  within_out h = rw (le-ltb v n h)

-- the byte says whether a row has 1 there
module _ (row : List ℕ) (v : ℕ) {b : ℕ} (e : b ≡ get_or row v 0) where
  pub chosen_byte : eqb b 1 ≡ chosen row v
  unfolding chosen
  chosen_byte = rw e
