-- Behind a star, or in a name.
use Rattle.text_pattern_in.proofs.Branches.{ends-star, ends-name}
use Rattle.text_pattern_in.proofs.scan.ends.Goals as goal

pub returns-then-q-eq2 : goal.returns-then-q-eq2
returns-then-q-eq2 c = ends-star _ c.if-q-eq2.true

pub returns-else-q-eq2 : goal.returns-else-q-eq2
returns-else-q-eq2 c = ends-name _ c.if-q-eq2.false
