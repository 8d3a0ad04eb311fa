use native.Mathlib.Omega.{arith}
use borrow.Author.Rules.{rules}
use Rattle.text_names.specs.Names.{lines}
use Rattle.text_pattern_out.proofs.Putting.{steps_start, steps-within, steps_room, steps_more, steps_end}
use Rattle.text_pattern_out.proofs.put.put_steps.Goals as goal

pub loop-i-init : goal.loop-i-init
loop-i-init c = (search rules, search rules, steps_start _ _ _)

pub slice_bounds-put_step-count : goal.slice_bounds-put_step-count
slice_bounds-put_step-count c = omega (arith, steps-within (lines c.args.list.now) c.args.p.now c.args.out.now c.loop-i.i c.loop-i.invariant.2 c.loop-i-test.true c.requires.p_in_bounds c.first_word.ensures c.second_word.ensures)

pub slice_bounds-put_step-start : goal.slice_bounds-put_step-start
slice_bounds-put_step-start c = omega (arith, steps-within (lines c.args.list.now) c.args.p.now c.args.out.now c.loop-i.i c.loop-i.invariant.2 c.loop-i-test.true c.requires.p_in_bounds c.first_word.ensures c.second_word.ensures)

pub put_step-at-requires : goal.put_step-at-requires
put_step-at-requires c = record { label_in_bounds = omega (arith, c.second_word.ensures, c.requires.numbered.all c.loop-i.i c.loop-i-test.true); label_in_bounds_2 = steps_room (lines c.args.list.now) c.args.p.now c.args.out.now c.loop-i.i c.loop-i.invariant.2 c.loop-i-test.true c.requires.p_in_bounds c.first_word.ensures c.second_word.ensures }

pub overflow_add-at : goal.overflow_add-at
overflow_add-at c = omega (arith, c.put_step-at.ensures.long, steps-within (lines c.args.list.now) c.args.p.now c.args.out.now c.loop-i.i c.loop-i.invariant.2 c.loop-i-test.true c.requires.p_in_bounds c.first_word.ensures c.second_word.ensures)

pub loop-i-preserved : goal.loop-i-preserved
loop-i-preserved c = (search rules, search rules, steps_more (lines c.args.list.now) c.args.p.now c.args.out.now c.loop-i.i c.loop-i.invariant.2 c.first_word.ensures c.second_word.ensures c.put_step-at.ensures)

pub shape_of-out : goal.shape_of-out
shape_of-out c = c.loop-i.invariant.1

pub returns : goal.returns
returns c = steps_end _ _ _ _ c.loop-i.invariant.2 c.loop-i.invariant.0 c.loop-i-test.false
