use mathlib.Core.Path.{refl, ◌∙◌}
use native.Mathlib.Omega.{arith}
use lib.ListN.{length-set}
use Rattle.text_xml.proofs.Decimal.{length_some}
use Rattle.text_xml_out.proofs.Digits.{none_written, digits_long, digits_within, digit_behind, digit_written, all_written}
use Rattle.text_xml_out.proofs.decimal.put_decimal.Goals as goal

pub overflow_add-end : goal.overflow_add-end
overflow_add-end c = omega (arith, c.requires, c.digits.ensures)

pub loop-left-init : goal.loop-left-init
loop-left-init c = (refl, none_written c.args.n c.args.out.now c.args.at (rw c.digits.ensures))

pub overflow_sub-k : goal.overflow_sub-k
overflow_sub-k c = omega (arith, digit_behind c.args.n c.args.out.now c.args.at c.loop-left.invariant.1 c.loop-left-test.true)

pub bounds-out-k : goal.bounds-out-k
bounds-out-k c = omega (arith, c.requires, c.loop-left.invariant.0, digits_within c.args.n c.args.out.now c.args.at c.loop-left.invariant.1, digit_behind c.args.n c.args.out.now c.args.at c.loop-left.invariant.1 c.loop-left-test.true)

pub loop-left-smaller : goal.loop-left-smaller
loop-left-smaller c = omega (arith, c.loop-left-test.true)

pub loop-left-preserved : goal.loop-left-preserved
loop-left-preserved c = let more = digit_written c.args.n c.args.out.now c.args.at c.loop-left.invariant.1 c.loop-left-test.true c.digit_byte.ensures in (digits_long c.args.n c.args.out.now c.args.at more, more)

pub digit_byte-requires-2 : goal.digit_byte-requires-2
digit_byte-requires-2 c = omega (arith, c.loop-left-test.false)

pub bounds-out-at : goal.bounds-out-at
bounds-out-at c = omega (arith, c.requires, c.loop-left.invariant.0, length_some c.args.n)

pub shape_of-out : goal.shape_of-out
shape_of-out c = length-set c.loop-left.out c.args.at c.digit_byte-2.result ∙ c.loop-left.invariant.0

pub returns : goal.returns
returns c = all_written c.args.n c.args.out.now c.args.at c.loop-left.invariant.1 (omega (arith, c.loop-left-test.false)) c.digit_byte-2.ensures (rw c.digits.ensures)
