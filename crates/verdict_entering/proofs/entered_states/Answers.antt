-- The row of the last state has every node, and from there the states are written.
use mathlib.Core.Path.{refl}
use Rattle.tables.specs.Limits.{step_limit}
use Rattle.verdict_entering.proofs.Climbing.{reached-last}
use Rattle.verdict_entering.proofs.States.{clear_of, filled_of, zeros, written_none, written_all}
use Rattle.verdict_entering.proofs.entered_states.Goals as goal

pub write_states-requires : goal.write_states-requires
write_states-requires c = let fit = c.requires in record { fitting = fit; reached = reached-last _ _ fit _ (filled_of 1 _ refl); clear = clear_of _ _ fit.most (filled_of 0 _ refl); written = written_none _ _ _ (zeros step_limit) }

pub returns : goal.returns
returns c = search written_all
