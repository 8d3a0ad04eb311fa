-- The shape first, then the identities.
use Rattle.tables.proofs.Branches.{handed, then_on, then_off}
use Rattle.doc_mend.proofs.mendable.Goals as goal

pub returns : goal.returns
returns c = then_on _ c.shape.ensures c.in_ok-shape.was c.identities.ensures

pub returns-in_err-shape : goal.returns-in_err-shape
returns-in_err-shape c = rw (handed c.from_residual.ensures) (then_off _ c.shape.ensures c.in_err-shape.was)
