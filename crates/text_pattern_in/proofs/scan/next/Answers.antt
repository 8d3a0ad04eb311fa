-- The branches of the code are those of the definition.
use Rattle.text_pattern_in.proofs.Branches.{next_at, next_other, next-lost, next_first, next-star}
use Rattle.text_pattern_in.proofs.scan.next.Goals as goal

pub returns-then-q-eq1 : goal.returns-then-q-eq1
returns-then-q-eq1 c = next_at _ _ 1 c.if-q-eq1.true c.begun.ensures

pub returns-then-q-eq3 : goal.returns-then-q-eq3
returns-then-q-eq3 c = next_at _ _ 3 c.if-q-eq3.true c.named.ensures

pub returns-then-q-eq4 : goal.returns-then-q-eq4
returns-then-q-eq4 c = next_at _ _ 4 c.if-q-eq4.true c.slashed.ensures

pub returns-then-k-ne1 : goal.returns-then-k-ne1
returns-then-k-ne1 c = next_other _ _ c.if-q-eq1.false c.if-q-eq3.false c.if-q-eq4.false c.if-k-ne1.true

pub returns-then-q-eq0 : goal.returns-then-q-eq0
returns-then-q-eq0 c = next_first _ _ c.if-k-ne1.false c.if-q-eq0.true

pub returns-then-q-eq2 : goal.returns-then-q-eq2
returns-then-q-eq2 c = next-star _ _ c.if-k-ne1.false c.if-q-eq2.true

pub returns : goal.returns
returns c = next-lost _ _ c.if-q-eq1.false c.if-q-eq3.false c.if-q-eq4.false c.if-q-eq0.false c.if-q-eq2.false
