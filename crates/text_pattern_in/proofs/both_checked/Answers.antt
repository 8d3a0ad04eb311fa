-- The list first, then the text.
use Rattle.tables.proofs.Branches.{handed}
use Rattle.text_pattern_in.proofs.Promise.{both_on, both_off}
use Rattle.text_pattern_in.proofs.both_checked.Goals as goal

pub returns : goal.returns
returns c = both_on _ _ c.list_checked.ensures c.in_ok-list_checked.was c.form_checked.ensures

pub returns-in_err-list_checked : goal.returns-in_err-list_checked
returns-in_err-list_checked c = rw (handed c.from_residual.ensures) (both_off _ _ c.list_checked.ensures c.in_err-list_checked.was)
