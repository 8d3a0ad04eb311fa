-- The branches of the code are those of the definition.
use Rattle.text_line_out.proofs.Branches.{digit_first, digit_second, digit_third, digit_last}
use Rattle.text_line_out.proofs.digit_of.Goals as goal

pub returns-then-j-eq0 : goal.returns-then-j-eq0
returns-then-j-eq0 c = search digit_first

pub returns-then-j-eq1 : goal.returns-then-j-eq1
returns-then-j-eq1 c = search digit_second

pub returns-then-j-eq2 : goal.returns-then-j-eq2
returns-then-j-eq2 c = search digit_third

pub returns : goal.returns
returns c = search digit_last
