-- The branches of the code are those of the definition.
use Rattle.text_pattern_in.proofs.Branches.{begun_star, begun_name, begun_lost}
use Rattle.text_pattern_in.proofs.scan.begun.Goals as goal

pub returns-then-k-eq2 : goal.returns-then-k-eq2
returns-then-k-eq2 c = search begun_star

pub returns-then-k-eq3 : goal.returns-then-k-eq3
returns-then-k-eq3 c = search begun_name

pub returns : goal.returns
returns c = search begun_lost
