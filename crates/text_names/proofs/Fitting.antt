-- The branches of the code on one entry, held against the definition.
use Prim.Native.Nat.{ℕ, ◌-◌, ◌≤◌, ◌<◌}
use mathlib.Core.Path.{◌≡◌}
use mathlib.Core.Bool.{Bool, true, false}
use mathlib.Core.List.{List}
use native.Mathlib.Nat.{sub-zero}
use lib.Dec.{eqb}
use lib.ListN.{length, take}
use borrow.Author.Tests.{lt-ltb, le-ltb}
use Rattle.tables.specs.Limits.{name_limit}
use Rattle.text_names.specs.Letters.{name}
use Rattle.text_names.specs.Names.{lines, number_of}
use Rattle.text_names.specs.Entries.{piece, entry_fits, FreshAt}

module _ (l : List ℕ) (from to k : ℕ) where
  pub entry_many : name_limit ≤ k → false ≡ entry_fits l from to k
  unfolding entry_fits
  entry_many h = rw (le-ltb k name_limit h)

  pub entry_open : k < name_limit → length l ≤ to → false ≡ entry_fits l from to k
  unfolding entry_fits
  entry_open h n = rw (lt-ltb k name_limit h, le-ltb to (length l) n)

  module _ (h : k < name_limit) (n : to < length l) {b : Bool} (is : b ≡ name (piece l from to)) where
    pub entry_other : b ≡ false → false ≡ entry_fits l from to k
    unfolding entry_fits
    entry_other e = rw (lt-ltb k name_limit h, lt-ltb to (length l) n, ← is, e)

    pub entry_new : b ≡ true → {mark : ℕ} → FreshAt l from to mark → mark ≡ 0 → true ≡ entry_fits l from to k
    unfolding entry_fits
    entry_new e f z = rw (lt-ltb k name_limit h, lt-ltb to (length l) n, ← is, e, f.fresh z)

    pub entry_named : b ≡ true → {m : ℕ} → m ≡ number_of (lines (take (from - 0) l)) (piece l from to) → eqb m 0 ≡ entry_fits l from to k
    unfolding entry_fits
    entry_named e p = rw (p, lt-ltb k name_limit h, lt-ltb to (length l) n, ← is, e, sub-zero from)
