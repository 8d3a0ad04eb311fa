-- The row is written only where every check is fine.
use Rattle.doc_read.proofs.Meeting.{fine_readable, read_fine, read_refused}
use Rattle.tables.proofs.Branches.{handed}
use Rattle.doc_read.proofs.read.reading_at.Goals as goal

pub filled-requires : goal.filled-requires
filled-requires c = fine_readable _ _ _ _ c.checked.ensures c.in_ok-checked.was

pub returns : goal.returns
returns c = read_fine _ _ _ _ c.checked.ensures c.in_ok-checked.was _ c.filled.ensures

pub returns-in_err-checked : goal.returns-in_err-checked
returns-in_err-checked c = rw (handed c.from_residual.ensures) (read_refused _ _ _ _ c.checked.ensures c.in_err-checked.was _)
