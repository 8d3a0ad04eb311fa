-- Where the innermost level is not held, all that can be are.
use Rattle.text_xml_in.proofs.levels.hold_innermost.Goals as goal

pub returns-then-q-ne1 : goal.returns-then-q-ne1
returns-then-q-ne1 c = (c.requires.held, λ e h. absurd (c.if-q-ne1.true e))

pub returns-then-low-d : goal.returns-then-low-d
returns-then-low-d c = (c.requires.held, λ e h. c.if-low-d.true)

pub recall-requires : goal.recall-requires
recall-requires c = c.requires.recallable
