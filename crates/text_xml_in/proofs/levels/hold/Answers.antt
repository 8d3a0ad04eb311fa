-- By the byte: a tag ends, a slash, or any other.
use native.Mathlib.Omega.{arith}
use Rattle.text_xml_in.proofs.Keeping.{keep_small, keep_depth, keep_low, keep_recall, keep_tag, keep_slash, keep_other}
use Rattle.text_xml_in.proofs.levels.hold.Goals as goal

pub overflow_add-d : goal.overflow_add-d
overflow_add-d c = omega (arith, keep_depth c.requires.scans c.requires.byte)

pub note-requires : goal.note-requires
note-requires c = keep_small c.requires.scans c.requires.byte

pub low_on-requires : goal.low_on-requires
low_on-requires c = keep_low c.requires.scans c.requires.byte

pub returns-then-c-eq62 : goal.returns-then-c-eq62
returns-then-c-eq62 c = keep_tag c.requires.scans c.requires.byte c.if-c-eq62.true c.note.ensures c.low_on.ensures

pub hold_innermost-requires : goal.hold_innermost-requires
hold_innermost-requires c = record { recallable = keep_recall c.requires.scans c.requires.byte; held = c.requires.scans.held }

pub returns-then-c-eq47 : goal.returns-then-c-eq47
returns-then-c-eq47 c = keep_slash c.requires.scans c.requires.byte c.if-c-eq62.false c.if-c-eq47.true c.hold_innermost.ensures.0 c.hold_innermost.ensures.1

pub returns : goal.returns
returns c = keep_other c.requires.scans c.requires.byte c.if-c-eq62.false c.if-c-eq47.false
