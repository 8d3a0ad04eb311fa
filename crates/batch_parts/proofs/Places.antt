-- A refusal of a part of the batch lies within that part.
use Rattle.std.specs.Prelude.{Err}
use Prim.Native.Nat.{ℕ, ◌+◌, ◌-◌, ◌*◌, ◌≤◌}
use mathlib.Core.Path.{◌≡◌, sym, ◌∙◌}
use mathlib.Core.List.{List}
use native.Mathlib.Omega.{arith}
use lib.ListN.{length, length-take}
use Rattle.tables.specs.Checks.{pattern_check, tree_check, Checked}
use Rattle.tables.specs.declared.refusal.Refusal.{Refusal}
use Rattle.tables.proofs.Refused.{WrongSteps, size_of_steps, axis_of, pattern_why, WrongNodes, size_of_nodes, parent_of, label_of, tree_why}
use Rattle.batch_parts.specs.Parts.{part}

module _ (p : List ℕ) (limit table : ℕ) {r : Refusal} where
  step-within : WrongSteps p limit table r → 2 * r.place ≤ length p
  step-within (size_of_steps f none) = omega (arith, none)
  step-within (axis_of i l w is) = rw is (omega (arith, l))

  node_within : WrongNodes p limit table r → 2 * r.place ≤ length p
  node_within (size_of_nodes f none) = omega (arith, none)
  node_within (parent_of v l w is) = rw is (omega (arith, l))
  node_within (label_of v l w is) = rw is (omega (arith, l))

module _ (b : List ℕ) (from to limit table : ℕ) (in_order : from ≤ to) (room : to ≤ length b) {got : Checked} {r : Refusal} (told : got ≡ Err r) where
  part_short : length (part b from (to - from)) ≤ to - from
  part_short = rw length-take (omega arith)

  pub step_offset : got ≡ pattern_check (part b from (to - from)) limit table → from + 2 * r.place ≤ length b
  step_offset e =
      omega (arith, part_short, in_order, room, step-within (part b from (to - from)) limit table (pattern_why (part b from (to - from)) limit table (sym e ∙ told)))

  pub node_offset : got ≡ tree_check (part b from (to - from)) limit table → from + 2 * r.place ≤ length b
  node_offset e =
      omega (arith, part_short, in_order, room, node_within (part b from (to - from)) limit table (tree_why (part b from (to - from)) limit table (sym e ∙ told)))
