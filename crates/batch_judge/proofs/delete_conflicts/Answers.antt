-- The verdict's answer tells whether they clash: with so long an output only what is not accepted is refused.
use Rattle.batch_judge.proofs.Told.{told}
use Rattle.batch_judge.proofs.delete_conflicts.Goals as goal

pub returns : goal.returns
returns c = rw c.clash.ensures (told _ c.scratch-out.result _ c.scratch-out.ensures _ c.delete_verdict.result c.delete_verdict.ensures)
