-- The first node of the read's row that is in the delete's too.
use Rattle.verdict_evidence.proofs.Granted.{lost_read, lost_update, lost_found}
use Rattle.verdict_evidence.proofs.lost.lost.Goals as goal

pub selected_row-row-requires : goal.selected_row-row-requires
selected_row-row-requires c = lost_read _ _ _ c.requires

pub removed_row-cut-requires : goal.removed_row-cut-requires
removed_row-cut-requires c = lost_update _ _ _ c.requires

pub returns : goal.returns
returns c = lost_found _ _ _ _ _ c.selected_row-row.ensures c.removed_row-cut.ensures c.first_both.ensures c.below.ensures
