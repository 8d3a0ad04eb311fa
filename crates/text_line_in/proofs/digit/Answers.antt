-- The branches of the code are those of the definition.
use Rattle.text_digits.proofs.Digits.{digit_low, digit_number, digit_between, digit_letter, digit_high}
use Rattle.text_line_in.proofs.digit.Goals as goal

pub returns-then-c-lt48 : goal.returns-then-c-lt48
returns-then-c-lt48 c = search digit_low

pub returns-then-c-le57 : goal.returns-then-c-le57
returns-then-c-le57 c = search digit_number

pub returns-then-c-lt65 : goal.returns-then-c-lt65
returns-then-c-lt65 c = search digit_between

pub returns-then-c-le70 : goal.returns-then-c-le70
returns-then-c-le70 c = search digit_letter

pub returns : goal.returns
returns c = search digit_high
