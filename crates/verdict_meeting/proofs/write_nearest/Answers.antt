-- The nearest of the marked states, and then its way.
use Rattle.verdict_meeting.proofs.Nearest.{near_traced, near_counted, near_written}
use borrow.Author.Rules.{rules}
use Rattle.verdict_meeting.proofs.write_nearest.Goals as goal

pub returns-then-out-r : goal.returns-then-out-r
returns-then-out-r c = search near_counted

pub trace-requires : goal.trace-requires
trace-requires c = near_traced _ _ _ _ _ _ _ c.nearest_state-best.ensures.0 _ c.requires.asked c.nearest_state-best.ensures.1 c.requires.lent c.nearest_state-best.auto.moves (search rules)

pub returns : goal.returns
returns c = search near_written
