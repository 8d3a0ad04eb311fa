use borrow.Author.Rules.{rules}
use Rattle.tables.proofs.Each.{each_start, each_on, each_off, each_end}
use Rattle.text_pattern_out.proofs.Promise.{number_fine, number_none}
use Rattle.text_pattern_out.proofs.check.numbers.Goals as goal

pub loop-i-init : goal.loop-i-init
loop-i-init c = (search rules, search each_start)

pub returns-then-most-second_word : goal.returns-then-most-second_word
returns-then-most-second_word c = each_off _ _ _ c.loop-i.invariant.1 c.loop-i-test.true (number_none _ _ _ c.names-most.ensures c.second_word.ensures c.if-most-second_word.true) c.refused.ensures

pub loop-i-preserved : goal.loop-i-preserved
loop-i-preserved c = (search rules, each_on _ _ _ c.loop-i.invariant.1 c.loop-i-test.true (number_fine _ _ _ c.names-most.ensures c.second_word.ensures c.if-most-second_word.false))

pub returns : goal.returns
returns c = each_end _ _ _ c.loop-i.invariant.1 c.loop-i-test.false
