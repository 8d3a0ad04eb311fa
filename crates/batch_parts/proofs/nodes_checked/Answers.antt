-- The count first, then the part behind it, which lies within the batch.
use native.Mathlib.Omega.{arith}
use Rattle.tables.specs.Limits.{tree_limit}
use Rattle.tables.specs.Checks.{tree_check}
use Rattle.tables.proofs.Branches.{handed, then_off}
use Rattle.batch_parts.specs.Parts.{in_nodes, nodes_check}
use Rattle.batch_parts.proofs.Branches.{part_room, part-on}
use Rattle.batch_parts.proofs.nodes_checked.Goals as goal

pub overflow_add-at : goal.overflow_add-at
overflow_add-at c = omega (arith, part_room _ _ _ c.counted.ensures c.in_ok-counted.was c.word-count.ensures)

pub overflow_add-at-2 : goal.overflow_add-at-2
overflow_add-at-2 c = omega (arith, part_room _ _ _ c.counted.ensures c.in_ok-counted.was c.word-count.ensures)

pub overflow_mul-count : goal.overflow_mul-count
overflow_mul-count c = omega (arith, part_room _ _ _ c.counted.ensures c.in_ok-counted.was c.word-count.ensures)

pub overflow_add-at-3 : goal.overflow_add-at-3
overflow_add-at-3 c = omega (arith, part_room _ _ _ c.counted.ensures c.in_ok-counted.was c.word-count.ensures)

pub nodes_part-requires : goal.nodes_part-requires
nodes_part-requires c = (omega arith, part_room _ _ _ c.counted.ensures c.in_ok-counted.was c.word-count.ensures)

pub returns : goal.returns
unfolding nodes_check
returns c = part-on in_nodes (λ xs. tree_check xs tree_limit 6) _ _ _ c.counted.ensures c.in_ok-counted.was c.word-count.ensures c.nodes_part.ensures

pub returns-in_err-counted : goal.returns-in_err-counted
unfolding nodes_check
returns-in_err-counted c = rw (handed c.from_residual.ensures) (then_off _ c.counted.ensures c.in_err-counted.was)
