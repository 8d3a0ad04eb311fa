-- The slashes, and the word behind them.
use native.Mathlib.Omega.{arith}
use Rattle.text_names.specs.Names.{lines}
use Rattle.text_pattern_out.proofs.Putting.{step-slashes, step_seam, step_word, step-put, step_sum}
use Rattle.text_pattern_out.proofs.put.put_step.Goals as goal

pub put_slashes-s-requires : goal.put_slashes-s-requires
put_slashes-s-requires c = step-slashes (lines c.args.list.now) c.args.a c.args.label c.args.out.now c.requires.label_in_bounds_2

pub slice_bounds-put_word-count : goal.slice_bounds-put_word-count
slice_bounds-put_word-count c = step_seam (lines c.args.list.now) c.args.a c.args.label c.args.out.now c.requires.label_in_bounds_2 c.put_slashes-s.ensures

pub slice_bounds-put_word-start : goal.slice_bounds-put_word-start
slice_bounds-put_word-start c = omega (arith, step_seam (lines c.args.list.now) c.args.a c.args.label c.args.out.now c.requires.label_in_bounds_2 c.put_slashes-s.ensures)

pub put_word-w-requires : goal.put_word-w-requires
put_word-w-requires c = record { label_in_bounds = c.requires.label_in_bounds; label_in_bounds_2 = step_word (lines c.args.list.now) c.args.a c.args.label c.args.out.now c.requires.label_in_bounds_2 c.put_slashes-s.ensures }

pub overflow_add-result : goal.overflow_add-result
overflow_add-result c = omega (arith, step_sum (lines c.args.list.now) c.args.a c.args.label c.args.out.now c.requires.label_in_bounds_2 c.put_slashes-s.ensures c.put_word-w.ensures)

pub returns : goal.returns
returns c = step-put (lines c.args.list.now) c.args.a c.args.label c.args.out.now c.requires.label_in_bounds_2 c.put_slashes-s.ensures c.put_word-w.ensures
