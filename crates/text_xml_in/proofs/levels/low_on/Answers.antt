-- The branches of the code are those of the definition.
use Rattle.text_xml_in.proofs.Branches.{low_same, low_full, low_room}
use Rattle.text_xml_in.proofs.levels.low_on.Goals as goal

pub returns-then-q-ne2 : goal.returns-then-q-ne2
returns-then-q-ne2 c = search low_same

pub returns-then-d-low-eq-HELD_LEVELS : goal.returns-then-d-low-eq-HELD_LEVELS
returns-then-d-low-eq-HELD_LEVELS c = search low_full

pub returns : goal.returns
returns c = search low_room
