-- The branches of the code are those of the definition.
use Rattle.doc_read.proofs.Branches.{set-root, set_under, above_parent}
use Rattle.doc_read.proofs.pass.set_of.Goals as goal

pub returns-then-v-eq0 : goal.returns-then-v-eq0
returns-then-v-eq0 c = set-root _ _ _ _ _ _ _ c.if-v-eq0.true c.next.ensures

pub carried_above-first-requires : goal.carried_above-first-requires
carried_above-first-requires c = above_parent _ _ _ c.if-v-eq0.false c.requires.0 _ c.requires.1

pub returns : goal.returns
returns c = set_under _ _ _ _ _ _ _ c.if-v-eq0.false c.carried_above-first.ensures c.set_above.ensures c.next-2.ensures
