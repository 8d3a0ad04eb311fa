-- The plan is written only where every check is fine.
use mathlib.Core.Path.{refl}
use Rattle.batch_plan.proofs.Checked.{plan_refused, plan_fine, plan_count, plan_asks}
use Rattle.tables.proofs.Branches.{handed}
use Rattle.batch_plan.proofs.plan.plan_by.Goals as goal

pub write-requires : goal.write-requires
write-requires c = plan_asks _ _ c.checked.ensures c.in_ok-n.was

pub returns-in_err-n : goal.returns-in_err-n
returns-in_err-n c = rw (handed c.from_residual.ensures) ((plan_refused _ _ c.checked.ensures c.in_err-n.was, refl))

pub returns : goal.returns
returns c = (plan_fine _ _ c.checked.ensures c.in_ok-n.was, plan_count _ _ c.checked.ensures c.in_ok-n.was, c.write.ensures)
