-- The plan on the tables where the identities are right; else the document's refusal.
use Rattle.check_identities.proofs.Refusing.{found_right, found_wrong}
use Rattle.doc_insert.proofs.Promises.{planned_on, planned_off}
use Rattle.doc_insert.proofs.planned.Goals as goal

pub returns-in-Ok : goal.returns-in-Ok
returns-in-Ok c = planned_on _ _ _ (found_right _ c.identities.ensures c.in-Ok.is) c.planned_tables.ensures

pub returns-in-Err : goal.returns-in-Err
returns-in-Err c = planned_off _ _ _ (found_wrong _ c.identities.ensures c.in-Err.is c.refusal_before.ensures)
