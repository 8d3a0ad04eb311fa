-- The text first, then its number of steps.
use Rattle.tables.proofs.Branches.{handed}
use Rattle.text_pattern_in.proofs.Promise.{text_fine, form_long, form_fine, form_off}
use Rattle.text_pattern_in.proofs.form_checked.Goals as goal

pub count_steps-requires : goal.count_steps-requires
count_steps-requires c = text_fine _ c.text_checked.ensures c.in_ok-text_checked.was

pub returns-then-count_steps-gt-STEP_LIMIT : goal.returns-then-count_steps-gt-STEP_LIMIT
returns-then-count_steps-gt-STEP_LIMIT c = form_long _ c.text_checked.ensures c.in_ok-text_checked.was c.count_steps.ensures c.if-count_steps-gt-STEP_LIMIT.true c.refused.ensures

pub returns : goal.returns
returns c = form_fine _ c.text_checked.ensures c.in_ok-text_checked.was c.count_steps.ensures c.if-count_steps-gt-STEP_LIMIT.false

pub returns-in_err-text_checked : goal.returns-in_err-text_checked
returns-in_err-text_checked c = rw (handed c.from_residual.ensures) (form_off _ c.text_checked.ensures c.in_err-text_checked.was)
