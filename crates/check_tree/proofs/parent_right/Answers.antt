-- The branches of the code are those of the definition.
use Rattle.check_tree.proofs.Branches.{parent-root, parent_other}
use Rattle.check_tree.proofs.parent_right.Goals as goal

pub returns-then-v-eq0 : goal.returns-then-v-eq0
returns-then-v-eq0 c = search parent-root

pub returns : goal.returns
returns c = search parent_other
