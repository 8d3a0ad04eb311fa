-- The branches of the code are those of the definition.
use Rattle.check_size.proofs.Branches.{output_short, output_long}
use Rattle.check_size.proofs.output.Goals as goal

pub returns-then-have-wanted : goal.returns-then-have-wanted
returns-then-have-wanted c = search output_short

pub returns : goal.returns
returns c = search output_long
