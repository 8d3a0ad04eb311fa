-- The reading of the tables where the identities are right; else the document's refusal.
use Rattle.check_identities.proofs.Refusing.{found_right, found_wrong}
use Rattle.doc_read.proofs.Laws.{read_tables, read_refused_whole}
use Rattle.doc_read.proofs.read.read.Goals as goal

pub returns-in-Ok : goal.returns-in-Ok
returns-in-Ok c = read_tables (found_right _ c.identities.ensures c.in-Ok.is) c.reading.ensures

pub returns-in-Err : goal.returns-in-Err
returns-in-Err c = read_refused_whole (found_wrong _ c.identities.ensures c.in-Err.is c.refusal_before.ensures)
