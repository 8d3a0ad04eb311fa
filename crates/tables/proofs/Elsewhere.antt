-- Whether a pattern or a tree meets a refusal does not depend on the table that the refusal names.
use Prim.Native.Nat.{ℕ, ◌/◌, ◌%◌}
use mathlib.Core.Path.{◌≡◌}
use mathlib.Core.Bool.{Bool, ◌&&◌}
use mathlib.Core.List.{List}
use lib.Dec.{eqb, ltb, leb}
use lib.ListN.{length}
use Rattle.tables.specs.Checks.{Checked}
use Rattle.tables.specs.Checks.{Fine}
use Rattle.tables.specs.Words.{steps, nodes, tag}
use Rattle.tables.specs.Checks.{refuse, ◌then◌, test, each, size_check, axis_right, axis_check, pattern_check, parent_right, node_check, tree_check}
use Rattle.tables.proofs.Accepted.{held, then_first, then_second, then_both, each_fine, each_all}

test_elsewhere : (b : Bool) (n table other place : ℕ) → test b (refuse n table place) ≡ Fine → test b (refuse n other place) ≡ Fine
test_elsewhere b n table other place e = rw (held b _ e)

then_elsewhere : (a b c d : Checked) → (a ≡ Fine → c ≡ Fine) → (b ≡ Fine → d ≡ Fine) → (a then b) ≡ Fine → (c then d) ≡ Fine
then_elsewhere a b c d f g e = then_both c d (f (then_first a b e)) (g (then_second a b e))

each_elsewhere : (f g : ℕ → Checked) (n : ℕ) → ((i : ℕ) → f i ≡ Fine → g i ≡ Fine) → each f 0 n ≡ Fine → each g 0 n ≡ Fine
each_elsewhere f g n h e = each_all g 0 n (λ i l. h _ (each_fine f 0 n e i l))

module _ (limit table other : ℕ) where
  size_elsewhere : (n : ℕ) → size_check n limit table ≡ Fine → size_check n limit other ≡ Fine
  unfolding size_check
  size_elsewhere n =
      then_elsewhere (test (ltb 0 n && eqb (n % 2) 0) (refuse 1 table 0)) (test (leb (n / 2) limit) (refuse 2 table 0)) _ _
      (test_elsewhere (ltb 0 n && eqb (n % 2) 0) 1 table other 0) (test_elsewhere (leb (n / 2) limit) 2 table other 0)

  axis_elsewhere : (p : List ℕ) (i : ℕ) → axis_check p table i ≡ Fine → axis_check p other i ≡ Fine
  unfolding axis_check
  axis_elsewhere p i = test_elsewhere (axis_right p i) 3 table other i

  node_elsewhere : (t : List ℕ) (v : ℕ) → node_check t table v ≡ Fine → node_check t other v ≡ Fine
  unfolding node_check
  node_elsewhere t v =
      then_elsewhere (test (parent_right t v) (refuse 4 table v)) (test (ltb 0 (tag t v)) (refuse 5 table v)) _ _
      (test_elsewhere (parent_right t v) 4 table other v) (test_elsewhere (ltb 0 (tag t v)) 5 table other v)

  pub pattern_elsewhere : (p : List ℕ) → pattern_check p limit table ≡ Fine → pattern_check p limit other ≡ Fine
  unfolding pattern_check
  pattern_elsewhere p =
      then_elsewhere (size_check (length p) limit table) (each (axis_check p table) 0 (steps p)) _ _
      (size_elsewhere (length p)) (each_elsewhere (axis_check p table) (axis_check p other) (steps p) (axis_elsewhere p))

  pub tree_elsewhere : (t : List ℕ) → tree_check t limit table ≡ Fine → tree_check t limit other ≡ Fine
  unfolding tree_check
  tree_elsewhere t =
      then_elsewhere (size_check (length t) limit table) (each (node_check t table) 0 (nodes t)) _ _
      (size_elsewhere (length t)) (each_elsewhere (node_check t table) (node_check t other) (nodes t) (node_elsewhere t))
