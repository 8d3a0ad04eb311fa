-- The check, and where it is fine the states.
use mathlib.Core.Path.{sym, ◌∙◌}
use Rattle.tables.specs.Limits.{step_limit}
use Rattle.verdict_entering.proofs.States.{fitting, zeros, states_on, states_off}
use Rattle.verdict_entering.proofs.entering_states.Goals as goal

pub entered_states-requires : goal.entered_states-requires
entered_states-requires c = fitting _ _ (sym c.accepted.ensures ∙ c.in-Ok.is)

pub returns-in-Ok : goal.returns-in-Ok
returns-in-Ok c = states_on c.accepted.ensures _ _ c.in-Ok.is c.entered_states.ensures

pub returns-in-Err : goal.returns-in-Err
returns-in-Err c = states_off c.accepted.ensures _ _ c.in-Err.is (zeros step_limit)
