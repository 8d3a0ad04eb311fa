-- The line is read, and its words say what it is.
use Rattle.text_first_line.proofs.Looking.{end_within, not_read, words_within, first_is}
use Rattle.text_first_line.proofs.first_line.Goals as goal

pub slice_bounds-read_line-end : goal.slice_bounds-read_line-end
slice_bounds-read_line-end c = end_within c.args.s.now c.next_byte-end.ensures

pub returns-in_default : goal.returns-in_default
returns-in_default c = not_read c.args.s.now c.next_byte-end.ensures c.room-words.result c.room-words.ensures c.read_line.new.words c.read_line.result c.read_line.ensures c.in_default.is

pub slice_bounds-says-end : goal.slice_bounds-says-end
slice_bounds-says-end c = words_within c.args.s.now c.next_byte-end.ensures c.room-words.result c.room-words.ensures c.read_line.new.words c.read_line.result c.read_line.ensures c.in-Ok.is

pub returns : goal.returns
returns c = first_is c.args.s.now c.next_byte-end.ensures c.room-words.result c.room-words.ensures c.read_line.new.words c.read_line.result c.read_line.ensures c.in-Ok.is c.behind-at.ensures c.says.result c.says.ensures
