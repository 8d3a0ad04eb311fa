-- What the first line is decides in which mode, and behind how many lines, the lines of frames are printed.
use Rattle.std.specs.Prelude.{Ok}
use mathlib.Core.Path.{◌∙◌, ap}
use native.Mathlib.Omega.{arith}
use Rattle.text_printer.proofs.Promise.{named-within, prints_unnamed, prints_named, prints_misnamed}
use Rattle.text_printer.proofs.print.Goals as goal

pub slice_bounds-print_lines-count : goal.slice_bounds-print_lines-count
slice_bounds-print_lines-count c = omega (arith, named-within c.args.input.now c.first_line.result c.first_line.ensures (c.in-Ok-Some.is ∙ ap Ok c.in-Ok-Some.field-0-is))

pub slice_bounds-print_lines-start : goal.slice_bounds-print_lines-start
slice_bounds-print_lines-start c = omega (arith, named-within c.args.input.now c.first_line.result c.first_line.ensures (c.in-Ok-Some.is ∙ ap Ok c.in-Ok-Some.field-0-is))

pub returns-in-Ok-None : goal.returns-in-Ok-None
returns-in-Ok-None c = prints_unnamed c.args.input.now c.first_line.result c.first_line.ensures (c.in-Ok-None.is ∙ ap Ok c.in-Ok-None.field-0-is) c.print_lines.ensures

pub returns-in-Ok-Some : goal.returns-in-Ok-Some
returns-in-Ok-Some c = prints_named c.args.input.now c.first_line.result c.first_line.ensures (c.in-Ok-Some.is ∙ ap Ok c.in-Ok-Some.field-0-is) c.print_lines-in-Ok-Some.ensures

pub returns-in-Err : goal.returns-in-Err
returns-in-Err c = prints_misnamed c.args.input.now c.first_line.result c.first_line.ensures c.in-Err.is c.number.ensures c.print_refusal.ensures
