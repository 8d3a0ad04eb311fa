-- The branches of the code are those of the definition.
use Rattle.verdict_evidence.proofs.Branches.{within_in, within_out}
use Rattle.verdict_evidence.proofs.lost.below.Goals as goal

pub returns-then-v-n : goal.returns-then-v-n
returns-then-v-n c = search within_in

pub returns : goal.returns
returns c = search within_out
