-- Every character is a digit.
use mathlib.Core.Path.{ap, ◌∙◌}
use native.Mathlib.Omega.{arith}
use Rattle.text_digits.specs.Digits.{digit_of}
use Rattle.text_line_in.proofs.digit_at.Goals as goal

pub returns : goal.returns
returns c = let e = c.digit.ensures ∙ ap digit_of c.byte.ensures in (e, omega (arith, c.requires.digits.all c.args.i c.requires.i_in_bounds))
