-- Identities first, then room.
use Rattle.tables.proofs.Branches.{handed, then_on, then_off}
use Rattle.doc_room.proofs.room.Goals as goal

pub returns : goal.returns
returns c = then_on _ c.naming.ensures c.in_ok-naming.was c.fitting.ensures

pub returns-in_err-naming : goal.returns-in_err-naming
returns-in_err-naming c = rw (handed c.from_residual.ensures) (then_off _ c.naming.ensures c.in_err-naming.was)
