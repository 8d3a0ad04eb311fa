-- The reading's checks, then the tree's.
use Rattle.doc_updates.proofs.Asking.{asked-on, asked_off}
use Rattle.tables.proofs.Branches.{handed}
use Rattle.doc_insert.proofs.asked.Goals as goal

pub returns : goal.returns
returns c = asked-on _ _ _ c.requires _ c.reading.ensures c.in_ok-reading.was c.tree.ensures

pub returns-in_err-reading : goal.returns-in_err-reading
returns-in_err-reading c = rw (handed c.from_residual.ensures) (asked_off _ _ _ c.requires _ c.reading.ensures c.in_err-reading.was)
