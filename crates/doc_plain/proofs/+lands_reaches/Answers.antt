-- Each branch is one law of landing.
use Rattle.doc_plain.proofs.Landing.{land_not, land_first, land_root, land_on, land_child, land_reach, reach_root, reach_on, reach_more}
use Rattle.doc_plain.proofs.+lands_reaches.Goals as goal

pub lands-returns-then-not-agrees : goal.lands-returns-then-not-agrees
lands-returns-then-not-agrees t c = search land_not

pub lands-returns-then-i-eq0 : goal.lands-returns-then-i-eq0
lands-returns-then-i-eq0 t c = search land_first

pub lands-returns-then-v-eq0 : goal.lands-returns-then-v-eq0
lands-returns-then-v-eq0 t c = search land_root

pub lands-returns-then-lands : goal.lands-returns-then-lands
lands-returns-then-lands t c = search land_on

pub lands-returns-then-first_word-ne2 : goal.lands-returns-then-first_word-ne2
lands-returns-then-first_word-ne2 t c = search land_child

pub lands-returns : goal.lands-returns
lands-returns t c = search land_reach

pub reaches-returns-then-v-eq0 : goal.reaches-returns-then-v-eq0
reaches-returns-then-v-eq0 t c = search reach_root

pub reaches-returns-then-lands : goal.reaches-returns-then-lands
reaches-returns-then-lands t c = search reach_on

pub reaches-returns : goal.reaches-returns
reaches-returns t c = search reach_more
