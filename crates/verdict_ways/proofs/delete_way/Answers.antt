-- The check, and where it is fine the way.
use mathlib.Core.Path.{sym, ◌∙◌}
use Rattle.verdict_ways.proofs.Allowed.{allowed_on, allowed_off}
use Rattle.verdict_ways.proofs.delete_way.Goals as goal

pub shortest_delete-requires : goal.shortest_delete-requires
shortest_delete-requires c = sym c.delete_check.ensures ∙ c.in-Ok.is

pub returns-in-Ok : goal.returns-in-Ok
returns-in-Ok c = allowed_on c.delete_check.ensures c.in-Ok.is c.shortest_delete.ensures

pub returns-in-Err : goal.returns-in-Err
returns-in-Err c = allowed_off c.delete_check.ensures _ _ c.in-Err.is
