use Rattle.verdict_meeting.proofs.Cells.{row_on_lem, moves_on}
use borrow.Author.Rules.{rules}
use Rattle.verdict_meeting.proofs.fill.fill_row.Goals as goal

pub loop-j-preserved : goal.loop-j-preserved
loop-j-preserved c = (search rules, search rules, search rules, search rules, search rules, search rules, search rules)

pub returns : goal.returns
returns c = (search row_on_lem, search moves_on)
