use borrow.Author.Rules.{rules}
use Rattle.tables.proofs.Each.{each_start, each_on, each_off, each_end}
use Rattle.text_line_in.proofs.Branches.{character_fine, character_other}
use Rattle.text_line_in.proofs.characters.Goals as goal

pub loop-i-init : goal.loop-i-init
loop-i-init c = (search rules, search each_start)

pub returns-then-digit-gt15 : goal.returns-then-digit-gt15
returns-then-digit-gt15 c = each_off _ _ _ c.loop-i.invariant.1 c.loop-i-test.true (character_other _ _ _ c.byte.ensures c.digit.ensures c.if-digit-gt15.true) c.refused.ensures

pub loop-i-preserved : goal.loop-i-preserved
loop-i-preserved c = (search rules, each_on _ _ _ c.loop-i.invariant.1 c.loop-i-test.true (character_fine _ _ _ c.byte.ensures c.digit.ensures c.if-digit-gt15.false))

pub returns : goal.returns
returns c = each_end _ _ _ c.loop-i.invariant.1 c.loop-i-test.false
