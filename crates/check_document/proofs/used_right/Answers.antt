-- The branches of the code are those of the definition.
use Rattle.check_document.proofs.Branches.{used_none, used_over, used_long, used_fine}
use Rattle.check_document.proofs.used_right.Goals as goal

pub returns-then-used-eq0 : goal.returns-then-used-eq0
returns-then-used-eq0 c = search used_none

pub returns-then-used-gt-USED_LIMIT : goal.returns-then-used-gt-USED_LIMIT
returns-then-used-gt-USED_LIMIT c = search used_over

pub returns-then-words-used : goal.returns-then-words-used
returns-then-words-used c = search used_long

pub returns : goal.returns
returns c = search used_fine
