-- The check, and where it is fine the way.
use mathlib.Core.Path.{sym, ◌∙◌, ap}
use Rattle.std.specs.Prelude.{Ok}
use Rattle.verdict_ways.proofs.Allowed.{granted}
use Rattle.verdict.proofs.Judging.{judged_on, judged_off}
use Rattle.verdict.proofs.Promise.{insert_promise}
use native.Mathlib.Omega.{arith}
use Rattle.tables.proofs.Branches.{handed}
use Rattle.verdict.proofs.insert_verdict.Goals as goal

pub returns : goal.returns
returns c = insert_promise _ _ _ (λ i. omega (arith, c.shared_slice_known-1.given i)) (λ i. omega (arith, c.shared_slice_known-2-1.given i)) (λ i. omega (arith, c.shared_slice_known-3-1.given i)) (judged_on _ c.insert_check.ensures c.in_ok-insert_check.was (granted (sym c.insert_check.ensures ∙ c.in_ok-insert_check.was) c.insert_way.ensures) (ap Ok c.found.ensures))

pub returns-in_err-insert_check : goal.returns-in_err-insert_check
returns-in_err-insert_check c = rw (handed c.from_residual.ensures) (insert_promise _ _ _ (λ i. omega (arith, c.shared_slice_known-1.given i)) (λ i. omega (arith, c.shared_slice_known-2-1.given i)) (λ i. omega (arith, c.shared_slice_known-3-1.given i)) (judged_off _ c.insert_check.ensures _ _ c.in_err-insert_check.was))
