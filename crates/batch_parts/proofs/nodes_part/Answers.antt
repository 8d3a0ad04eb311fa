-- The check is made on the part itself; the word that is named lies within the batch.
use Prim.Native.Nat.{◌+◌, ◌*◌, ◌≤◌}
use lib.ListN.{length}
use native.Mathlib.Omega.{arith}
use Rattle.tables.specs.Refusals.{number}
use Rattle.batch_parts.proofs.Branches.{named_most, nodes-on, nodes_off}
use Rattle.batch_parts.proofs.Places.{node_offset}
use Rattle.batch_parts.proofs.nodes_part.Goals as goal

pub overflow_mul-r : goal.overflow_mul-r
overflow_mul-r c = let within : c.args.from + 2 * c.in-Err.r.place ≤ length c.args.b.now = node_offset _ _ _ _ _ c.requires.0 c.requires.1 c.in-Err.is c.tree.ensures in omega (arith, within)

pub overflow_add-from : goal.overflow_add-from
overflow_add-from c = let within : c.args.from + 2 * c.in-Err.r.place ≤ length c.args.b.now = node_offset _ _ _ _ _ c.requires.0 c.requires.1 c.in-Err.is c.tree.ensures in omega (arith, within)

pub overflow_add-from-in-Err : goal.overflow_add-from-in-Err
overflow_add-from-in-Err c = let within : c.args.from + 2 * c.in-Err.r.place ≤ length c.args.b.now = node_offset _ _ _ _ _ c.requires.0 c.requires.1 c.in-Err.is c.tree.ensures in omega (arith, within, named_most (number c.in-Err.r.reason) c.word_named-word.ensures)

pub returns-in-Ok : goal.returns-in-Ok
returns-in-Ok c = nodes-on _ c.tree.ensures c.in-Ok.is

pub returns-in-Err : goal.returns-in-Err
returns-in-Err c = nodes_off _ c.tree.ensures c.in-Err.is c.word_named-word.ensures c.refused.ensures
