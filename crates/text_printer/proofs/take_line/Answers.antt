-- The line, then its frame; its words stand behind those in use.
use native.Mathlib.Omega.{arith}
use Rattle.text_printer.proofs.Taking.{read_words, line_refused, words_few, put_room, take_refused, take_words}
use Rattle.tables.proofs.Branches.{handed}
use Rattle.text_printer.proofs.take_line.Goals as goal

pub returns-in_default : goal.returns-in_default
returns-in_default c = line_refused c.args.line.now c.args.n c.args.used c.args.batch.now c.requires.roomy c.read_line.new.words c.read_line.result c.read_line.ensures c.in_default.is

pub overflow_add-end : goal.overflow_add-end
overflow_add-end c = omega (arith, c.requires.roomy.within, words_few c.args.line.now c.args.n c.args.used c.args.batch.now c.requires.roomy c.read_line.new.words (read_words _ _ _ _ c.read_line.result c.read_line.ensures c.in-Ok.is))

pub slice_bounds-frame_checked-end : goal.slice_bounds-frame_checked-end
slice_bounds-frame_checked-end c = put_room c.args.line.now c.args.n c.args.used c.args.batch.now c.requires.roomy c.read_line.new.words (read_words _ _ _ _ c.read_line.result c.read_line.ensures c.in-Ok.is)

pub returns-in_err-frame_checked : goal.returns-in_err-frame_checked
returns-in_err-frame_checked c = rw (handed c.from_residual.ensures) (take_refused c.args.line.now c.args.n c.args.used c.args.batch.now c.requires.roomy c.read_line.new.words (read_words _ _ _ _ c.read_line.result c.read_line.ensures c.in-Ok.is) c.frame_checked.ensures c.in_err-frame_checked.was)

pub returns : goal.returns
returns c = take_words c.args.line.now c.args.n c.args.used c.args.batch.now c.requires.roomy c.read_line.new.words (read_words _ _ _ _ c.read_line.result c.read_line.ensures c.in-Ok.is) c.frame_checked.ensures c.in_ok-frame_checked.was
