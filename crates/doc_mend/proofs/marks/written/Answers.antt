-- The changes are counted, the room is asked, and they are made or nothing is.
use native.Mathlib.Omega.{arith}
use Rattle.doc_mend.proofs.Promises.{changes_few, list_room, written_done, written_refused}
use Rattle.tables.proofs.Branches.{handed}
use Rattle.doc_mend.proofs.marks.written.Goals as goal

pub overflow_mul-n : goal.overflow_mul-n
overflow_mul-n c = record { fits = omega (arith, c.change_count-n.ensures, changes_few _ c.requires) }

pub put_all-requires : goal.put_all-requires
put_all-requires c = (c.requires, list_room _ c.change_count-n.ensures c.output.ensures c.in_ok-output.was)

pub returns : goal.returns
returns c = written_done _ _ c.change_count-n.ensures c.output.ensures c.in_ok-output.was c.put_all.ensures

pub returns-in_err-output : goal.returns-in_err-output
returns-in_err-output c = rw (handed c.from_residual.ensures) (written_refused _ _ c.change_count-n.ensures c.output.ensures c.in_err-output.was)
