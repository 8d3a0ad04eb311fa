-- The check first; then the marks are mended, or nothing changes.
use Rattle.doc_mend.proofs.Promises.{mendable_shape, mend_done, mend_refused}
use Rattle.tables.proofs.Branches.{handed}
use Rattle.doc_mend.proofs.mend.Goals as goal

pub written-requires : goal.written-requires
written-requires c = mendable_shape _ c.mendable.ensures c.in_ok-mendable.was

pub returns : goal.returns
returns c = mend_done _ c.mendable.ensures c.in_ok-mendable.was c.written.ensures

pub returns-in_err-mendable : goal.returns-in_err-mendable
returns-in_err-mendable c = rw (handed c.from_residual.ensures) (mend_refused _ c.mendable.ensures c.in_err-mendable.was _)
