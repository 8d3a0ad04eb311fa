-- The mark is written, and compared with what it was.
use Rattle.doc_mend.proofs.Branches.{counted_turn}
use Rattle.doc_mend.proofs.marks.counted.Goals as goal

pub returns : goal.returns
returns c = search counted_turn
