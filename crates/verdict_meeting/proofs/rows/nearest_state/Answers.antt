use Rattle.verdict_meeting.proofs.Cells.{row_none, moves_none, moves_all}
use Rattle.verdict_meeting.proofs.Nearest.{near_none, near_more, near_all}
use borrow.Author.Rules.{rules}
use Rattle.verdict_meeting.proofs.rows.nearest_state.Goals as goal

pub loop-i-init : goal.loop-i-init
loop-i-init c = (search rules, search rules, search rules, search rules, search row_none, search moves_none, search near_none)

pub loop-i-preserved : goal.loop-i-preserved
loop-i-preserved c = (search rules, search rules, search rules, search rules, search rules, search rules, search near_more)

pub returns : goal.returns
returns c = (search near_all, search moves_all)
