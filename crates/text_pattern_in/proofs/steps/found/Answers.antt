-- The branches of the code are those of the definition.
use Rattle.text_pattern_in.proofs.Branches.{found_star, found_none, found_number}
use Rattle.text_pattern_in.proofs.steps.found.Goals as goal

pub returns-then-is_star : goal.returns-then-is_star
returns-then-is_star c = found_star _ _ c.is_star.ensures c.if-is_star.true

pub returns-then-n-eq0 : goal.returns-then-n-eq0
returns-then-n-eq0 c = found_none _ _ c.is_star.ensures c.if-is_star.false c.number-n.ensures c.if-n-eq0.true

pub returns : goal.returns
returns c = found_number _ _ c.is_star.ensures c.if-is_star.false c.number-n.ensures c.if-n-eq0.false
