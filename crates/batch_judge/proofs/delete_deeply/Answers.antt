-- The deep verdict's answer tells whether they clash.
use Rattle.batch_judge.proofs.Told.{told_deep}
use Rattle.batch_judge.proofs.delete_deeply.Goals as goal

pub returns : goal.returns
returns c = rw c.deep_clash.ensures (told_deep c.deep_delete_verdict.result c.deep_delete_verdict.ensures)
