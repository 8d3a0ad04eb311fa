use Rattle.verdict_evidence.proofs.Searching.{first_start, first_found, first_on, first_none}
use Rattle.verdict_evidence.proofs.search.first_both.Goals as goal

pub loop-v-init : goal.loop-v-init
loop-v-init c = first_start _ _

pub returns-then-both : goal.returns-then-both
returns-then-both c = first_found _ _ _ c.loop-v.invariant c.loop-v-test.true c.both.ensures c.if-both.true

pub loop-v-preserved : goal.loop-v-preserved
loop-v-preserved c = first_on _ _ _ c.loop-v.invariant c.loop-v-test.true c.both.ensures c.if-both.false

pub returns : goal.returns
returns c = first_none _ _ _ c.loop-v.invariant c.loop-v-test.false c.loop-v.auto.v-end
