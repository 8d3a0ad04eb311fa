-- The branches of the code are those of the definition.
use Rattle.batch_parts.proofs.Branches.{count_absent, count_none, count-over, count_short, count_fine}
use Rattle.batch_parts.proofs.counted.Goals as goal

pub returns-then-words-at : goal.returns-then-words-at
returns-then-words-at c = search count_absent

pub returns-then-count-eq0 : goal.returns-then-count-eq0
returns-then-count-eq0 c = search count_none

pub returns-then-limit-count : goal.returns-then-limit-count
returns-then-limit-count c = search count-over

pub returns-then-words-at-2 : goal.returns-then-words-at-2
returns-then-words-at-2 c = search count_short

pub returns : goal.returns
returns c = search count_fine
