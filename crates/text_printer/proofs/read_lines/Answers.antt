use native.Mathlib.Omega.{arith}
use borrow.Author.Rules.{rules}
use Rattle.text_printer.proofs.Going.{go_start, go_roomy, go_end, go_least, go_most, go_stop, go_used, go_place, go_on}
use Rattle.text_printer.proofs.read_lines.Goals as goal

pub loop-at-init : goal.loop-at-init
loop-at-init c = go_start _ _ _

pub slice_bounds-take_line-count : goal.slice_bounds-take_line-count
slice_bounds-take_line-count c = go_least c.loop-at.invariant c.requires.digit_limit_in_bounds c.requires.frame_limit_in_bounds c.loop-at-test.true c.next_byte-end.ensures

pub slice_bounds-take_line-start : goal.slice_bounds-take_line-start
slice_bounds-take_line-start c = go_least c.loop-at.invariant c.requires.digit_limit_in_bounds c.requires.frame_limit_in_bounds c.loop-at-test.true c.next_byte-end.ensures

pub slice_bounds-take_line-end : goal.slice_bounds-take_line-end
slice_bounds-take_line-end c = go_most c.loop-at.invariant c.requires.digit_limit_in_bounds c.requires.frame_limit_in_bounds c.loop-at-test.true c.next_byte-end.ensures

pub take_line-requires : goal.take_line-requires
take_line-requires c = record { n_le_frame_limit = c.loop-at.invariant.few; roomy = go_roomy c.loop-at.invariant c.requires.digit_limit_in_bounds c.requires.frame_limit_in_bounds }

pub overflow_add-result : goal.overflow_add-result
overflow_add-result c = omega (arith, c.loop-at.invariant.few)

pub shape_of-kinds-in-Err : goal.shape_of-kinds-in-Err
shape_of-kinds-in-Err c = c.loop-at.invariant.frames

pub returns-in-Err : goal.returns-in-Err
returns-in-Err c = go_stop c.loop-at.invariant c.requires.digit_limit_in_bounds c.requires.frame_limit_in_bounds c.loop-at-test.true c.next_byte-end.ensures c.take_line.new.batch c.take_line.result c.take_line.ensures c.in-Err.is

pub offset_bounds-batch-used : goal.offset_bounds-batch-used
offset_bounds-batch-used c = omega (arith, c.loop-at.invariant.within)

pub bounds-batch-used : goal.bounds-batch-used
bounds-batch-used c = go_used c.loop-at.invariant c.requires.digit_limit_in_bounds c.requires.frame_limit_in_bounds c.loop-at-test.true c.next_byte-end.ensures c.take_line.new.batch c.take_line.result c.take_line.ensures c.in-Ok.is

pub offset_bounds-kinds-n : goal.offset_bounds-kinds-n
offset_bounds-kinds-n c = omega (arith, c.loop-at.invariant.few)

pub bounds-kinds-n : goal.bounds-kinds-n
bounds-kinds-n c = go_place c.loop-at.invariant c.requires.digit_limit_in_bounds c.requires.frame_limit_in_bounds c.loop-at-test.true c.next_byte-end.ensures c.take_line.new.batch c.take_line.result c.take_line.ensures c.in-Ok.is

pub overflow_add-n : goal.overflow_add-n
overflow_add-n c = omega (arith, c.loop-at.invariant.few)

pub overflow_add-at : goal.overflow_add-at
overflow_add-at c = search (rules, go_most c.loop-at.invariant c.requires.digit_limit_in_bounds c.requires.frame_limit_in_bounds c.loop-at-test.true c.next_byte-end.ensures)

pub loop-at-smaller : goal.loop-at-smaller
loop-at-smaller c = omega (arith, go_least c.loop-at.invariant c.requires.digit_limit_in_bounds c.requires.frame_limit_in_bounds c.loop-at-test.true c.next_byte-end.ensures, c.loop-at-test.true)

pub loop-at-preserved : goal.loop-at-preserved
loop-at-preserved c = go_on c.loop-at.invariant c.requires.digit_limit_in_bounds c.requires.frame_limit_in_bounds c.loop-at-test.true c.next_byte-end.ensures c.take_line.new.batch c.take_line.result c.take_line.ensures c.in-Ok.is

pub shape_of-batch : goal.shape_of-batch
shape_of-batch c = c.loop-at.invariant.words

pub shape_of-kinds : goal.shape_of-kinds
shape_of-kinds c = c.loop-at.invariant.frames

pub returns : goal.returns
returns c = go_end c.loop-at.invariant c.requires.digit_limit_in_bounds c.requires.frame_limit_in_bounds c.loop-at-test.false
