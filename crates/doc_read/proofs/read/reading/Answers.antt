-- A reading at the last step alone.
use Rattle.doc_read.proofs.Meeting.{last_read}
use Rattle.doc_read.proofs.read.reading.Goals as goal

pub returns : goal.returns
returns c = last_read _ c.last_wanted-wanted.ensures c.reading_at.ensures
