-- The checks first; then the row is filled, or nothing changes.
use native.Mathlib.Omega.{arith}
use Rattle.doc_plain.proofs.Promise.{readable, plain_read, plain_refused}
use Rattle.tables.proofs.Branches.{handed}
use Rattle.doc_plain.proofs.plain_reading.Goals as goal

pub fill-requires : goal.fill-requires
fill-requires c = readable _ _ _ (λ i. omega (arith, c.shared_slice_known-2-1.given i)) c.checked.ensures c.in_ok-checked.was

pub returns : goal.returns
returns c = plain_read _ _ _ (λ i. omega (arith, c.shared_slice_known-2-1.given i)) c.checked.ensures c.in_ok-checked.was c.fill.ensures

pub returns-in_err-checked : goal.returns-in_err-checked
returns-in_err-checked c = rw (handed c.from_residual.ensures) (plain_refused _ _ _ c.checked.ensures c.in_err-checked.was)
