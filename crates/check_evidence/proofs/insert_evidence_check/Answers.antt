-- The patterns first, then the trees.
use Rattle.tables.proofs.Branches.{handed, then_on, then_off}
use Rattle.check_evidence.specs.Order.{insert_evidence_check}
use Rattle.check_evidence.proofs.insert_evidence_check.Goals as goal

pub returns : goal.returns
unfolding insert_evidence_check
returns c = then_on _ c.patterns_check.ensures c.in_ok-patterns_check.was c.trees.ensures

pub returns-in_err-patterns_check : goal.returns-in_err-patterns_check
unfolding insert_evidence_check
returns-in_err-patterns_check c = rw (handed c.from_residual.ensures) (then_off _ c.patterns_check.ensures c.in_err-patterns_check.was)
