-- A table, or a counted part of a frame, that is accepted under one limit: under another it is refused by 2 alone, where it has too many steps or nodes.
use Rattle.std.specs.Prelude.{Ok, Err}
use Prim.Native.Nat.{ℕ, ◌+◌, ◌*◌, ◌/◌, ◌%◌, ◌≤◌}
use mathlib.Core.Path.{◌≡◌, refl, sym, ◌∙◌}
use mathlib.Core.Bool.{Bool, true, false, ◌&&◌}
use mathlib.Core.List.{List}
use native.Mathlib.Omega.{arith}
use lib.Dec.{eqb, ltb, leb}
use lib.ListN.{length}
use borrow.Author.Tests.{le-leb, leb-true}
use Rattle.tables.specs.Words.{steps, nodes}
use Rattle.tables.specs.Checks.{◌then◌, test, refuse, each, size_check, axis_check, pattern_check, node_check, tree_check, Checked, Fine}
use Rattle.tables.specs.declared.refusal.Refusal.{Refusal}
use Rattle.tables.proofs.Accepted.{never, held, then_first, then_second}
use Rattle.batch_parts.specs.Parts.{part, count, in_steps, in_nodes, count_check}
use Rattle.batch_parts.proofs.Branches.{count_room}
use Rattle.batch_check.proofs.Accepted.{part_length}

pub then_fine : (c : Checked) → (c then Fine) ≡ c
then_fine (Ok tt) = refl
then_fine (Err r) = refl

-- a test that passes under a limit passes under a greater one
pub test_more : (n limit other : ℕ) (r : Refusal) → limit ≤ other → test (leb n limit) (Err r) ≡ Fine → leb n other ≡ true
test_more n limit other r h e = le-leb n other (omega (arith, leb-true n limit (held (leb n limit) r e)))

size_other : (n limit other table : ℕ) → size_check n limit table ≡ Fine → size_check n other table ≡ test (leb (n / 2) other) (refuse 2 table 0)
unfolding size_check
size_other n limit other table e = rw (then_first (test (ltb 0 n && eqb (n % 2) 0) (refuse 1 table 0)) (test (leb (n / 2) limit) (refuse 2 table 0)) e)

pub pattern_other : (p : List ℕ) (limit other table : ℕ) → pattern_check p limit table ≡ Fine → pattern_check p other table ≡ test (leb (steps p) other) (refuse 2 table 0)
unfolding pattern_check
pattern_other p limit other table e =
    rw (
      size_other (length p) limit other table (then_first (size_check (length p) limit table) (each (axis_check p table) 0 (steps p)) e),
      then_second (size_check (length p) limit table) (each (axis_check p table) 0 (steps p)) e,
      then_fine (test (leb (steps p) other) (refuse 2 table 0)),
    )

pub tree_other : (t : List ℕ) (limit other table : ℕ) → tree_check t limit table ≡ Fine → tree_check t other table ≡ test (leb (nodes t) other) (refuse 2 table 0)
unfolding tree_check
tree_other t limit other table e =
    rw (
      size_other (length t) limit other table (then_first (size_check (length t) limit table) (each (node_check t table) 0 (nodes t)) e),
      then_second (size_check (length t) limit table) (each (node_check t table) 0 (nodes t)) e,
      then_fine (test (leb (nodes t) other) (refuse 2 table 0)),
    )

module _ (b : List ℕ) (at limit other : ℕ) (e : count_check b at limit ≡ Fine) where
  here : test (ltb at (length b)) (refuse 9 6 (length b)) ≡ Fine
  unfolding count_check
  here = then_first (test (ltb at (length b)) (refuse 9 6 (length b))) _ e

  behind : (test (ltb 0 (count b at)) (refuse 1 6 at) then test (leb (count b at) limit) (refuse 2 6 at) then test (leb (at + 1 + 2 * count b at) (length b)) (refuse 9 6 (length b))) ≡ Fine
  unfolding count_check
  behind = then_second (test (ltb at (length b)) (refuse 9 6 (length b))) _ e

  some : test (ltb 0 (count b at)) (refuse 1 6 at) ≡ Fine
  some = then_first (test (ltb 0 (count b at)) (refuse 1 6 at)) _ behind

  rest : (test (leb (count b at) limit) (refuse 2 6 at) then test (leb (at + 1 + 2 * count b at) (length b)) (refuse 9 6 (length b))) ≡ Fine
  rest = then_second (test (ltb 0 (count b at)) (refuse 1 6 at)) _ behind

  whole : test (leb (at + 1 + 2 * count b at) (length b)) (refuse 9 6 (length b)) ≡ Fine
  whole = then_second (test (leb (count b at) limit) (refuse 2 6 at)) _ rest

  count_other : count_check b at other ≡ test (leb (count b at) other) (refuse 2 6 at)
  unfolding count_check
  count_other = rw (here, some, whole, then_fine (test (leb (count b at) other) (refuse 2 6 at)))

  part_half : length (part b (at + 1) (2 * count b at)) / 2 ≡ count b at
  part_half =
      let long : length (part b (at + 1) (2 * count b at)) ≡ 2 * count b at = part_length b (at + 1) (2 * count b at) (omega (arith, count_room b at limit e)) in
      omega arith

-- a counted part, of steps or of nodes
module _ (inPart : ℕ → Checked → Checked) (check : List ℕ → ℕ → ℕ → Checked) (on : (from : ℕ) → inPart from Fine ≡ Fine) (back : (from : ℕ) (c : Checked) → inPart from c ≡ Fine → c ≡ Fine) (check_other : (p : List ℕ) (limit other table : ℕ) → check p limit table ≡ Fine → check p other table ≡ test (leb (length p / 2) other) (refuse 2 table 0)) (b : List ℕ) (at limit other : ℕ) where
  part_other : (count_check b at limit then inPart (at + 1) (check (part b (at + 1) (2 * count b at)) limit 6)) ≡ Fine
      → (count_check b at other then inPart (at + 1) (check (part b (at + 1) (2 * count b at)) other 6)) ≡ test (leb (count b at) other) (refuse 2 6 at)
  part_other e = rw (count_other b at limit other counted) (go (leb (count b at) other) refl)
    where
      counted : count_check b at limit ≡ Fine
      counted = then_first (count_check b at limit) _ e

      right : check (part b (at + 1) (2 * count b at)) limit 6 ≡ Fine
      right = back (at + 1) _ (then_second (count_check b at limit) _ e)

      go : (t : Bool) → leb (count b at) other ≡ t → (test t (refuse 2 6 at) then inPart (at + 1) (check (part b (at + 1) (2 * count b at)) other 6)) ≡ test t (refuse 2 6 at)
      go true q = rw (check_other (part b (at + 1) (2 * count b at)) limit other 6 right, part_half b at limit other counted, q, on)
      go false q = refl

in_steps-back : (from : ℕ) (c : Checked) → in_steps from c ≡ Fine → c ≡ Fine
in_steps-back from (Ok tt) e = refl
in_steps-back from (Err r) e = never refl e

in_nodes-back : (from : ℕ) (c : Checked) → in_nodes from c ≡ Fine → c ≡ Fine
in_nodes-back from (Ok tt) e = refl
in_nodes-back from (Err r) e = never refl e

pub steps-part_other : (b : List ℕ) (at limit other : ℕ) → (count_check b at limit then in_steps (at + 1) (pattern_check (part b (at + 1) (2 * count b at)) limit 6)) ≡ Fine
    → (count_check b at other then in_steps (at + 1) (pattern_check (part b (at + 1) (2 * count b at)) other 6)) ≡ test (leb (count b at) other) (refuse 2 6 at)
steps-part_other = part_other in_steps pattern_check (λ from. refl) in_steps-back pattern_other

pub nodes-part_other : (b : List ℕ) (at limit other : ℕ) → (count_check b at limit then in_nodes (at + 1) (tree_check (part b (at + 1) (2 * count b at)) limit 6)) ≡ Fine
    → (count_check b at other then in_nodes (at + 1) (tree_check (part b (at + 1) (2 * count b at)) other 6)) ≡ test (leb (count b at) other) (refuse 2 6 at)
nodes-part_other = part_other in_nodes tree_check (λ from. refl) in_nodes-back tree_other
