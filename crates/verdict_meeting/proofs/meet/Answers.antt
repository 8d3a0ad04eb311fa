-- The check, and where it is fine the way.
use mathlib.Core.Path.{sym, ◌∙◌}
use Rattle.check_verdict.proofs.Accepting.{patterns_bounded}
use Rattle.verdict_meeting.proofs.Admitted.{met-on, met_off}
use Rattle.verdict_meeting.proofs.meet.Goals as goal

pub shortest-requires : goal.shortest-requires
shortest-requires c = patterns_bounded _ _ (sym c.patterns_check.ensures ∙ c.in-Ok.is)

pub returns-in-Ok : goal.returns-in-Ok
returns-in-Ok c = met-on _ _ c.patterns_check.ensures _ _ c.in-Ok.is c.shortest.ensures

pub returns-in-Err : goal.returns-in-Err
returns-in-Err c = met_off _ _ c.patterns_check.ensures _ _ _ c.in-Err.is
