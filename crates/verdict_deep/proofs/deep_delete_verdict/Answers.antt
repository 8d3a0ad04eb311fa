-- The check, and where it is fine the answer.
use Rattle.verdict_deep.proofs.Judging.{deeply-on, deeply_off}
use Rattle.verdict_deep.proofs.Promise.{deep_delete_promise}
use mathlib.Core.Path.{refl}
use native.Mathlib.Omega.{arith}
use Rattle.tables.proofs.Branches.{handed}
use Rattle.verdict_deep.proofs.deep_delete_verdict.Goals as goal

pub returns : goal.returns
returns c = deep_delete_promise _ _ (λ i. omega (arith, c.shared_slice_known-1.given i)) (λ i. omega (arith, c.shared_slice_known-2-1.given i)) (deeply-on _ c.deep_delete_check.ensures _ c.in_ok-deep_delete_check.was c.delete_deep.ensures refl)

pub returns-in_err-deep_delete_check : goal.returns-in_err-deep_delete_check
returns-in_err-deep_delete_check c = rw (handed c.from_residual.ensures) (deep_delete_promise _ _ (λ i. omega (arith, c.shared_slice_known-1.given i)) (λ i. omega (arith, c.shared_slice_known-2-1.given i)) (deeply_off _ c.deep_delete_check.ensures _ c.in_err-deep_delete_check.was))
