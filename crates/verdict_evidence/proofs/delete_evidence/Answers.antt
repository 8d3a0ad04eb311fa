-- The check, and where it is fine the node.
use mathlib.Core.Path.{sym, ◌∙◌, ap}
use Rattle.std.specs.Prelude.{Ok}
use native.Mathlib.Omega.{arith}
use Rattle.verdict_evidence.proofs.Granted.{lost_promise}
use Rattle.tables.proofs.Branches.{handed}
use Rattle.verdict_evidence.proofs.delete_evidence.Goals as goal

pub lost-requires : goal.lost-requires
lost-requires c = sym c.delete_evidence_check.ensures ∙ c.in_ok-delete_evidence_check.was

pub returns : goal.returns
returns c = lost_promise _ _ _ (sym c.delete_evidence_check.ensures ∙ c.in_ok-delete_evidence_check.was) (λ i. omega (arith, c.shared_slice_known-3-1.given i)) c.lost.ensures (ap Ok c.found.ensures)

pub returns-in_err-delete_evidence_check : goal.returns-in_err-delete_evidence_check
returns-in_err-delete_evidence_check c = rw (handed c.from_residual.ensures) (sym c.delete_evidence_check.ensures ∙ c.in_err-delete_evidence_check.was)
