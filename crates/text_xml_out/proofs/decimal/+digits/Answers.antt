-- How many digits, by comparing; beyond five those of a hundred thousandth, which is less.
use Prim.Native.Nat.{◌/◌}
use mathlib.Core.Path.{sym}
use native.Mathlib.Omega.{arith}
use Rattle.text_xml.proofs.Decimal.{length-small, length_two, length_three, length-four, length-five, length_beyond, length-least}
use Rattle.text_xml_out.proofs.decimal.+digits.Goals as goal

pub returns-then-n-lt10 : goal.returns-then-n-lt10
returns-then-n-lt10 t c = sym (length-small c.args.n c.if-n-lt10.true)

pub returns-then-n-lt100 : goal.returns-then-n-lt100
returns-then-n-lt100 t c = sym (length_two c.args.n (omega (arith, c.if-n-lt10.false)) c.if-n-lt100.true)

pub returns-then-n-lt1000 : goal.returns-then-n-lt1000
returns-then-n-lt1000 t c = sym (length_three c.args.n (omega (arith, c.if-n-lt100.false)) c.if-n-lt1000.true)

pub returns-then-n-lt10000 : goal.returns-then-n-lt10000
returns-then-n-lt10000 t c = sym (length-four c.args.n (omega (arith, c.if-n-lt1000.false)) c.if-n-lt10000.true)

pub returns-then-n-lt100000 : goal.returns-then-n-lt100000
returns-then-n-lt100000 t c = sym (length-five c.args.n (omega (arith, c.if-n-lt10000.false)) c.if-n-lt100000.true)

pub overflow_add-result : goal.overflow_add-result
overflow_add-result t c = omega (arith, c.digits.ensures, length-least (c.args.n / 100000))

pub returns : goal.returns
returns t c = omega (arith, c.digits.ensures, length_beyond c.args.n (omega (arith, c.if-n-lt100000.false)))
