-- The masks, then the pass.
use Rattle.doc_read.proofs.Words.{passable}
use Rattle.doc_read.proofs.row.word_read.Goals as goal

pub passed-requires : goal.passed-requires
passed-requires c = search passable
