-- The root, a node whose parent's mark counts, a node whose own does.
use Rattle.doc_mend.proofs.Branches.{follows_root, follows_above, follows_own}
use Rattle.doc_mend.proofs.marks.mended.Goals as goal

pub returns-then-v-eq0 : goal.returns-then-v-eq0
returns-then-v-eq0 c = search follows_root

pub returns-then-old-eq0 : goal.returns-then-old-eq0
returns-then-old-eq0 c = search follows_above

pub returns : goal.returns
returns c = search follows_own
