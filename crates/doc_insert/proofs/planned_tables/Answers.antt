-- The checks first, then the room for the copies that the row asks for.
use native.Mathlib.Omega.{arith}
use Rattle.doc_insert.proofs.Promises.{small, tables_on, tables_off}
use Rattle.tables.proofs.Branches.{handed}
use Rattle.doc_insert.proofs.planned_tables.Goals as goal

pub answered-requires : goal.answered-requires
answered-requires c = small _ _ _ c.asked.ensures c.in_ok-asked.was c.counted-copies.ensures (omega arith)

pub returns : goal.returns
returns c = tables_on _ _ _ c.asked.ensures c.in_ok-asked.was _ _ _ c.counted-copies.ensures c.answered.ensures

pub returns-in_err-asked : goal.returns-in_err-asked
returns-in_err-asked c = rw (handed c.from_residual.ensures) (tables_off _ _ _ c.asked.ensures _ c.in_err-asked.was)
