use native.Mathlib.Omega.{arith}
use Rattle.text_pattern_in.proofs.Left.{at_start, at_next, at_end, to_behind}
use Rattle.text_pattern_in.proofs.steps.count_steps.Goals as goal

pub loop-i-init : goal.loop-i-init
loop-i-init c = at_start _ c.requires

pub overflow_add-k : goal.overflow_add-k
overflow_add-k c = omega (arith, c.loop-i.invariant.passed, c.loop-i-test.true)

pub loop-i-smaller : goal.loop-i-smaller
loop-i-smaller c = omega (arith, c.word_to-i.ensures, to_behind c.loop-i.invariant c.loop-i-test.true, c.loop-i-test.true)

pub loop-i-preserved : goal.loop-i-preserved
loop-i-preserved c = at_next c.loop-i.invariant c.loop-i-test.true c.word_to-i.ensures

pub returns : goal.returns
returns c = at_end c.loop-i.invariant c.loop-i-test.false
