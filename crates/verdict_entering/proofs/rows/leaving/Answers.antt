-- The definition's two parts.
use borrow.Author.Rules.{rules}
use Rattle.verdict_entering.specs.Climbing.{leaves}
use Rattle.verdict_entering.proofs.rows.leaving.Goals as goal

pub returns-then-landing_above : goal.returns-then-landing_above
unfolding leaves
returns-then-landing_above c = search rules

pub returns-else-landing_above : goal.returns-else-landing_above
unfolding leaves
returns-else-landing_above c = search rules
