-- The list first, then the rest.
use Rattle.tables.proofs.Branches.{handed, then_on, then_off}
use Rattle.text_pattern_out.specs.Writing.{write_text_check}
use Rattle.text_pattern_out.proofs.check.write_checked.Goals as goal

pub returns : goal.returns
unfolding write_text_check
returns c = then_on _ c.list_checked.ensures c.in_ok-list_checked.was c.pattern_and_rest.ensures

pub returns-in_err-list_checked : goal.returns-in_err-list_checked
unfolding write_text_check
returns-in_err-list_checked c = rw (handed c.from_residual.ensures) (then_off _ c.list_checked.ensures c.in_err-list_checked.was)
