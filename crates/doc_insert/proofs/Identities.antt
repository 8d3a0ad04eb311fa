-- The identities given, in the place of the free ones.
use Prim.Native.Nat.{ℕ, ◌+◌, ◌-◌, ◌≤◌}
use mathlib.Core.Path.{◌≡◌, refl}
use mathlib.Core.List.{List, ◌++◌}
use native.Mathlib.Omega.{arith}
use lib.ListN.{length, take, drop}
use Rattle.selection.specs.Lists.{tab}
use Rattle.identities.specs.Updates.{given}
use Rattle.doc_copy.proofs.Grafting.{lent_back}

pub names_back : (ids : List ℕ) (used n next : ℕ) → used + n ≤ length ids → {free : List ℕ} → free ≡ tab (λ k. next + k) n ++ drop n (take (length ids - used) (drop used ids)) →
    take used ids ++ (free ++ drop (length ids - used) (drop used ids)) ≡ given ids used n next
unfolding given
names_back ids used n next h e = rw e (lent_back ids (tab (λ k. next + k) n) used n (used + n) refl (omega arith))
