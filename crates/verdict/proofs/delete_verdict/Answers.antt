-- The check, and where it is fine the way.
use mathlib.Core.Path.{sym, ◌∙◌, ap}
use Rattle.std.specs.Prelude.{Ok}
use Rattle.verdict_ways.proofs.Allowed.{granted}
use Rattle.verdict.proofs.Judging.{judged_on, judged_off}
use Rattle.verdict.proofs.Promise.{delete_promise}
use native.Mathlib.Omega.{arith}
use Rattle.tables.proofs.Branches.{handed}
use Rattle.verdict.proofs.delete_verdict.Goals as goal

pub returns : goal.returns
returns c = delete_promise _ _ (λ i. omega (arith, c.shared_slice_known-1.given i)) (λ i. omega (arith, c.shared_slice_known-2-1.given i)) (judged_on _ c.delete_check.ensures c.in_ok-delete_check.was (granted (sym c.delete_check.ensures ∙ c.in_ok-delete_check.was) c.delete_way.ensures) (ap Ok c.found.ensures))

pub returns-in_err-delete_check : goal.returns-in_err-delete_check
returns-in_err-delete_check c = rw (handed c.from_residual.ensures) (delete_promise _ _ (λ i. omega (arith, c.shared_slice_known-1.given i)) (λ i. omega (arith, c.shared_slice_known-2-1.given i)) (judged_off _ c.delete_check.ensures _ _ c.in_err-delete_check.was))
