-- As many words as are left, and no more than wanted.
use Rattle.batch_judge.proofs.Parts.{part_past, part_short, part_there}
use Rattle.batch_judge.proofs.taken.Goals as goal

pub returns-then-all-from : goal.returns-then-all-from
returns-then-all-from c = search part_past

pub returns-then-all-from-2 : goal.returns-then-all-from-2
returns-then-all-from-2 c = search part_short

pub returns : goal.returns
returns c = search part_there
