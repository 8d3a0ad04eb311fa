use native.Mathlib.Omega.{arith}
use borrow.Author.Rules.{rules}
use Rattle.selection.proofs.Filling.{row_start, row_more, row_within, row_long, row_end}
use Rattle.text_line_out.proofs.Branches.{byte_of_word}
use Rattle.text_line_out.proofs.fill_digits.Goals as goal

pub loop-i-init : goal.loop-i-init
loop-i-init c = (search rules, search row_start)

pub digit_byte-requires : goal.digit_byte-requires
digit_byte-requires c = omega (arith, c.digit_of.ensures)

pub bounds-out-i : goal.bounds-out-i
bounds-out-i c = row_within _ _ _ c.loop-i.invariant.1 _ c.loop-i-test.true c.requires

pub loop-i-preserved : goal.loop-i-preserved
loop-i-preserved c = (search rules, row_more _ _ _ c.loop-i.invariant.1 (omega (arith, c.requires)) (byte_of_word _ _ c.word.ensures c.digit_of.ensures c.digit_byte.ensures))

pub shape_of-out : goal.shape_of-out
shape_of-out c = row_long _ _ _ c.loop-i.invariant.1 (omega (arith, c.requires))

pub returns : goal.returns
returns c = row_end _ _ _ c.loop-i.invariant.1 _ (search rules) c.loop-i-test.false
