-- The deep verdict's answer tells whether they clash.
use Rattle.batch_judge.proofs.Told.{told_deep}
use Rattle.batch_judge.proofs.insert_deeply.Goals as goal

pub returns : goal.returns
returns c = rw c.deep_clash.ensures (told_deep c.deep_insert_verdict.result c.deep_insert_verdict.ensures)
