-- The branches of the code are those of the definition.
use Rattle.text_line_in.proofs.Branches.{line_none, line_odd, line_long, line_rest}
use Rattle.text_line_in.proofs.line_checked.Goals as goal

pub returns-then-n-eq0 : goal.returns-then-n-eq0
returns-then-n-eq0 c = search line_none

pub returns-then-n-ne0 : goal.returns-then-n-ne0
returns-then-n-ne0 c = search line_odd

pub returns-then-n-gt-DIGIT_LIMIT : goal.returns-then-n-gt-DIGIT_LIMIT
returns-then-n-gt-DIGIT_LIMIT c = search line_long

pub returns : goal.returns
returns c = search line_rest
