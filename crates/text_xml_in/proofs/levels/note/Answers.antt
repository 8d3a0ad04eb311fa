-- The branches of the code are those of the definition.
use Rattle.text_xml_in.proofs.Branches.{note_other, note_end, note_deep, note_far, note_here}
use Rattle.text_xml_in.proofs.levels.note.Goals as goal

pub returns-then-c-ne62 : goal.returns-then-c-ne62
returns-then-c-ne62 c = search note_other

pub returns-then-q-ne2 : goal.returns-then-q-ne2
returns-then-q-ne2 c = search note_end

pub returns-then-e-d : goal.returns-then-e-d
returns-then-e-d c = search note_deep

pub returns-then-e-d-gt-HELD_LEVELS : goal.returns-then-e-d-gt-HELD_LEVELS
returns-then-e-d-gt-HELD_LEVELS c = search note_far

pub returns : goal.returns
returns c = search note_here
