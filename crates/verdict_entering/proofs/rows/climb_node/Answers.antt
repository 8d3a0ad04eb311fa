-- The row takes the parent of a node that a run leaves.
use Rattle.verdict_entering.proofs.Climbing.{state_word, mark_inside, climb_stored, climb_still}
use Rattle.verdict_entering.proofs.rows.climb_node.Goals as goal

pub leaving-requires : goal.leaving-requires
leaving-requires c = search state_word

pub bounds-own-u : goal.bounds-own-u
bounds-own-u c = search mark_inside

pub returns-then-leaving : goal.returns-then-leaving
returns-then-leaving c = search climb_stored

pub returns-else-leaving : goal.returns-else-leaving
returns-else-leaving c = search climb_still
