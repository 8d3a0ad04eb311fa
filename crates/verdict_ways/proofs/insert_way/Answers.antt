-- The check, and where it is fine the way.
use mathlib.Core.Path.{sym, ◌∙◌}
use Rattle.verdict_ways.proofs.Allowed.{allowed_on, allowed_off}
use Rattle.verdict_ways.proofs.insert_way.Goals as goal

pub shortest_insert-requires : goal.shortest_insert-requires
shortest_insert-requires c = sym c.insert_check.ensures ∙ c.in-Ok.is

pub returns-in-Ok : goal.returns-in-Ok
returns-in-Ok c = allowed_on c.insert_check.ensures c.in-Ok.is c.shortest_insert.ensures

pub returns-in-Err : goal.returns-in-Err
returns-in-Err c = allowed_off c.insert_check.ensures _ _ c.in-Err.is
