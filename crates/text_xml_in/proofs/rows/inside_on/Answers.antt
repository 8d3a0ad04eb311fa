-- The branches of the code are those of the definition.
use Rattle.text_xml_in.proofs.Branches.{inside_same, inside_new, inside_outer, inside_short}
use Rattle.text_xml_in.proofs.rows.inside_on.Goals as goal

pub returns-then-c-ne62 : goal.returns-then-c-ne62
returns-then-c-ne62 c = search inside_same

pub returns-then-q-eq2 : goal.returns-then-q-eq2
returns-then-q-eq2 c = search inside_new

pub returns-then-q-eq5 : goal.returns-then-q-eq5
returns-then-q-eq5 c = search inside_outer

pub returns : goal.returns
returns c = search inside_short
