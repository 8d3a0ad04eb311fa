-- The check, and where it is fine the node.
use mathlib.Core.Path.{sym, ◌∙◌, ap}
use Rattle.std.specs.Prelude.{Ok}
use native.Mathlib.Omega.{arith}
use Rattle.verdict_evidence.proofs.Granted.{gained_promise}
use Rattle.tables.proofs.Branches.{handed}
use Rattle.verdict_evidence.proofs.insert_evidence.Goals as goal

pub gained-requires : goal.gained-requires
gained-requires c = sym c.insert_evidence_check.ensures ∙ c.in_ok-insert_evidence_check.was

pub returns : goal.returns
returns c = gained_promise _ _ _ _ (sym c.insert_evidence_check.ensures ∙ c.in_ok-insert_evidence_check.was) (λ i. omega (arith, c.shared_slice_known-3-1.given i)) (λ i. omega (arith, c.shared_slice_known-4-1.given i)) c.gained.ensures (ap Ok c.found.ensures)

pub returns-in_err-insert_evidence_check : goal.returns-in_err-insert_evidence_check
returns-in_err-insert_evidence_check c = rw (handed c.from_residual.ensures) (sym c.insert_evidence_check.ensures ∙ c.in_err-insert_evidence_check.was)
