use native.Mathlib.Omega.{arith}
use Rattle.text_pattern_in.proofs.Left.{to_behind}
use Rattle.text_pattern_in.proofs.Taking.{took_start, took_long, took_room, took_off, took_next, took_end, label_some}
use Rattle.text_pattern_in.proofs.steps.take_steps.Goals as goal

pub loop-i-init : goal.loop-i-init
loop-i-init c = took_start _ _ _ c.requires.s_value

pub shape_of-words-then-label-ge-WORD_LIMIT : goal.shape_of-words-then-label-ge-WORD_LIMIT
shape_of-words-then-label-ge-WORD_LIMIT c = took_long c.loop-i.invariant (omega (arith, c.loop-i.invariant.at.some, c.requires.s_in_bounds))

pub returns-then-label-ge-WORD_LIMIT : goal.returns-then-label-ge-WORD_LIMIT
returns-then-label-ge-WORD_LIMIT c = took_off c.loop-i.invariant c.requires.s_in_bounds c.loop-i-test.true c.requires.list_len_bound c.label_at-label.ensures c.if-label-ge-WORD_LIMIT.true c.refused.ensures

pub put_step-requires : goal.put_step-requires
put_step-requires c = (took_room c.loop-i.invariant c.requires.s_in_bounds c.loop-i-test.true, (label_some _ _ c.requires.list_len_bound c.label_at-label.ensures c.if-label-ge-WORD_LIMIT.false).2)

pub overflow_add-k : goal.overflow_add-k
overflow_add-k c = omega (arith, c.loop-i.invariant.at.passed, c.loop-i-test.true)

pub loop-i-smaller : goal.loop-i-smaller
loop-i-smaller c = omega (arith, c.word_to-i.ensures, to_behind c.loop-i.invariant.at c.loop-i-test.true, c.loop-i-test.true)

pub loop-i-preserved : goal.loop-i-preserved
loop-i-preserved c = took_next c.loop-i.invariant c.requires.s_in_bounds c.loop-i-test.true c.requires.list_len_bound c.label_at-label.ensures c.if-label-ge-WORD_LIMIT.false c.axis_at.ensures c.word_to-i.ensures c.put_step.ensures

pub shape_of-words : goal.shape_of-words
shape_of-words c = took_long c.loop-i.invariant (omega (arith, c.loop-i.invariant.at.some, c.requires.s_in_bounds))

pub returns : goal.returns
returns c = took_end c.loop-i.invariant c.loop-i-test.false
