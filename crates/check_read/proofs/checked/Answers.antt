-- The document first, then the rest.
use Rattle.tables.proofs.Branches.{handed, then_on, then_off}
use Rattle.check_read.specs.Readable.{read_tables_check}
use Rattle.check_read.proofs.checked.Goals as goal

pub returns : goal.returns
unfolding read_tables_check
returns c = then_on _ c.document.ensures c.in_ok-document.was c.asked.ensures

pub returns-in_err-document : goal.returns-in_err-document
unfolding read_tables_check
returns-in_err-document c = rw (handed c.from_residual.ensures) (then_off _ c.document.ensures c.in_err-document.was)
