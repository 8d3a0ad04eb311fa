-- The branches of the code are those of the definition.
use Rattle.text_digits.proofs.Digits.{byte_number, byte_letter}
use Rattle.text_line_out.proofs.digit_byte.Goals as goal

pub returns-then-d-le9 : goal.returns-then-d-le9
returns-then-d-le9 c = search byte_number

pub returns : goal.returns
returns c = search byte_letter
