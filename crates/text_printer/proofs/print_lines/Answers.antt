-- How the lines end decides what is printed.
use native.Mathlib.Omega.{arith}
use Rattle.text_printer.proofs.Promise.{stop_within, stop_few, stop_prints, all_words, all_frames, all_planned, all_prints}
use Rattle.text_printer.proofs.print_lines.Goals as goal

pub offset_in-offset-requires : goal.offset_in-offset-requires
offset_in-offset-requires c = stop_within c.args.mode c.requires c.args.input.now c.read_lines.new.batch c.read_lines.new.kinds c.read_lines.result c.read_lines.ensures c.in-Err.is

pub overflow_add-above : goal.overflow_add-above
overflow_add-above c = omega (arith, stop_few c.args.mode c.requires c.args.input.now c.read_lines.new.batch c.read_lines.new.kinds c.read_lines.result c.read_lines.ensures c.in-Err.is)

pub slice_bounds-print_plan-end : goal.slice_bounds-print_plan-end
slice_bounds-print_plan-end c = all_words c.args.mode c.requires c.args.input.now c.read_lines.new.batch c.read_lines.new.kinds c.read_lines.result c.read_lines.ensures c.in-Ok.is

pub slice_bounds-print_plan-end-in-Ok : goal.slice_bounds-print_plan-end-in-Ok
slice_bounds-print_plan-end-in-Ok c = all_frames c.args.mode c.requires c.args.input.now c.read_lines.new.batch c.read_lines.new.kinds c.read_lines.result c.read_lines.ensures c.in-Ok.is

pub print_plan-requires : goal.print_plan-requires
print_plan-requires c = all_planned c.args.mode c.requires c.args.input.now c.read_lines.new.batch c.read_lines.new.kinds c.read_lines.result c.read_lines.ensures c.in-Ok.is

pub returns-in-Err : goal.returns-in-Err
returns-in-Err c = stop_prints c.args.mode c.requires c.args.input.now c.read_lines.new.batch c.read_lines.new.kinds c.read_lines.result c.read_lines.ensures c.in-Err.is c.number.ensures c.offset_in-offset.ensures c.print_refusal.ensures

pub returns-in-Ok : goal.returns-in-Ok
returns-in-Ok c = all_prints c.args.mode c.requires c.args.input.now c.read_lines.new.batch c.read_lines.new.kinds c.read_lines.result c.read_lines.ensures c.in-Ok.is c.print_plan.ensures
