-- The branches of the code are those of the definition.
use Rattle.text_xml_in.proofs.Branches.{stage_end, stage_begin, stage_close, stage_short, stage_digit, stage-name, stage_end_name}
use Rattle.text_xml_in.proofs.stage.stage_on.Goals as goal

pub returns-then-c-eq62 : goal.returns-then-c-eq62
returns-then-c-eq62 c = search stage_end

pub returns-then-c-eq60 : goal.returns-then-c-eq60
returns-then-c-eq60 c = search stage_begin

pub returns-then-q-eq1 : goal.returns-then-q-eq1
returns-then-q-eq1 c = search stage_close

pub returns-then-c-eq47 : goal.returns-then-c-eq47
returns-then-c-eq47 c = search stage_short

pub returns-then-c-ne110 : goal.returns-then-c-ne110
returns-then-c-ne110 c = search stage_digit

pub returns-then-q-eq1-2 : goal.returns-then-q-eq1-2
returns-then-q-eq1-2 c = search stage-name

pub returns : goal.returns
returns c = search stage_end_name
