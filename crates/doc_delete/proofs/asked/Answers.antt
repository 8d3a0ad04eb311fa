-- The reading's checks, then 6.
use Rattle.doc_updates.specs.Updating.{delete_tables_check}
use Rattle.doc_updates.proofs.Asking.{asked-on, asked_off}
use Rattle.tables.proofs.Branches.{handed}
use Rattle.doc_delete.proofs.asked.Goals as goal

pub returns : goal.returns
unfolding delete_tables_check
returns c = asked-on _ _ _ c.requires _ c.reading.ensures c.in_ok-reading.was c.below_root.ensures

pub returns-in_err-reading : goal.returns-in_err-reading
unfolding delete_tables_check
returns-in_err-reading c = rw (handed c.from_residual.ensures) (asked_off _ _ _ c.requires _ c.reading.ensures c.in_err-reading.was)
