-- What a check that refuses says: which test has failed, and where.
use Prim.Native.Nat.{ℕ, ◌/◌, ◌%◌, ◌<◌}
use mathlib.Core.Path.{◌≡◌, refl}
use mathlib.Core.Bool.{Bool, true, false, ◌&&◌}
use mathlib.Core.List.{List}
use native.Mathlib.Omega.{arith}
use lib.Dec.{eqb, ltb, leb}
use lib.ListN.{length}
use borrow.Author.Tests.{ltb-false}
use Rattle.tables.specs.declared.refusal.Refusal.{Refusal}
use Rattle.tables.specs.Checks.{Checked}
use Rattle.std.specs.Prelude.{Ok, Err}
use Rattle.tables.specs.Checks.{Fine}
use Rattle.tables.specs.Refusals.{numbered}
use Rattle.tables.specs.Words.{steps, nodes, tag}
use Rattle.tables.specs.Checks.{refuse, ◌then◌, test, size_check, axis_right, axis_check, pattern_check, parent_right, node_check, tree_check}
use Rattle.tables.proofs.Accepted.{never}
use Rattle.tables.proofs.First.{First, each_first}

-- a test has failed, and the refusal is its own
pub test_why : (t : Bool) (q : Refusal) {r : Refusal} → test t (Err q) ≡ Err r → (t ≡ false) × (r ≡ q)
test_why true q e = never e refl
test_why false q e = (refl, cc)

-- of two checks the first refuses, or it is fine and the second does
pub then_why : {P : Type 0} (a b : Checked) {r : Refusal} → (a ≡ Err r → P) → (a ≡ Fine → b ≡ Err r → P) → (a then b) ≡ Err r → P
then_why (Ok tt) b first second e = second refl e
then_why (Err q) b first second e = first e

-- the size has no place
size_why : (n limit table : ℕ) {r : Refusal} → size_check n limit table ≡ Err r → r.place ≡ 0
unfolding size_check
size_why n limit table e =
    then_why (test (ltb 0 n && eqb (n % 2) 0) (refuse 1 table 0)) (test (leb (n / 2) limit) (refuse 2 table 0))
    (λ f. rw (test_why (ltb 0 n && eqb (n % 2) 0) _ f).1)
    (λ some f. rw (test_why (leb (n / 2) limit) _ f).1)
    e

-- what is wrong with a pattern: its size, or the axis of one of its steps
pub data WrongSteps (p : List ℕ) (limit table : ℕ) (r : Refusal) : Type 0 where
  size_of_steps : size_check (length p) limit table ≡ Err r → r.place ≡ 0 → WrongSteps p limit table r
  axis_of : (i : ℕ) → i < steps p → axis_right p i ≡ false → r ≡ record { reason = numbered 3; table = table; place = i } → WrongSteps p limit table r

pub pattern_why : (p : List ℕ) (limit table : ℕ) {r : Refusal} → pattern_check p limit table ≡ Err r → WrongSteps p limit table r
unfolding pattern_check axis_check
pattern_why p limit table {r} e =
    then_why (size_check (length p) limit table) _
    (λ f. size_of_steps f (size_why (length p) limit table f))
    (λ sized f.
    let first = each_first (axis_check p table) r 0 (steps p) f in
    let why = test_why (axis_right p first.at) _ first.here in
    axis_of first.at (omega (arith, first.below)) why.0 why.1)
    e

-- what is wrong with a tree: its size, or the parent or the label of one of its nodes
pub data WrongNodes (t : List ℕ) (limit table : ℕ) (r : Refusal) : Type 0 where
  size_of_nodes : size_check (length t) limit table ≡ Err r → r.place ≡ 0 → WrongNodes t limit table r
  parent_of : (v : ℕ) → v < nodes t → parent_right t v ≡ false → r ≡ record { reason = numbered 4; table = table; place = v } → WrongNodes t limit table r
  label_of : (v : ℕ) → v < nodes t → tag t v ≡ 0 → r ≡ record { reason = numbered 5; table = table; place = v } → WrongNodes t limit table r

pub tree_why : (t : List ℕ) (limit table : ℕ) {r : Refusal} → tree_check t limit table ≡ Err r → WrongNodes t limit table r
unfolding tree_check node_check
tree_why t limit table {r} e =
    then_why (size_check (length t) limit table) _
    (λ f. size_of_nodes f (size_why (length t) limit table f))
    (λ sized f. at_node (each_first (node_check t table) r 0 (nodes t) f))
    e
  where
    at_node : First (node_check t table) 0 (nodes t) r → WrongNodes t limit table r
    at_node first =
        let v = first.at in
        let below : v < nodes t = omega (arith, first.below) in
        then_why (test (parent_right t v) (refuse 4 table v)) (test (ltb 0 (tag t v)) (refuse 5 table v))
        (λ f. let why = test_why (parent_right t v) _ f in parent_of v below why.0 why.1)
        (λ right f. let why = test_why (ltb 0 (tag t v)) _ f in label_of v below (omega (arith, ltb-false 0 (tag t v) why.0)) why.1)
        first.here
