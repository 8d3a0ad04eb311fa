-- The branches of the code are those of the definition.
use Rattle.text_pattern_in.proofs.Branches.{slashed_twice, slashed_begun}
use Rattle.text_pattern_in.proofs.scan.slashed.Goals as goal

pub returns-then-k-eq1 : goal.returns-then-k-eq1
returns-then-k-eq1 c = slashed_twice _ c.if-k-eq1.true

pub returns : goal.returns
returns c = slashed_begun _ c.if-k-eq1.false c.begun.ensures
