-- The branches of the code are those of the definition.
use Rattle.text_pattern_in.proofs.Branches.{kind-slash, kind-star, kind-starts, kind-goes, kind_other}
use Rattle.text_pattern_in.proofs.scan.kind_at.Goals as goal

pub returns-then-c-eq47 : goal.returns-then-c-eq47
returns-then-c-eq47 c = kind-slash _ c.byte-c.ensures c.if-c-eq47.true

pub returns-then-c-eq42 : goal.returns-then-c-eq42
returns-then-c-eq42 c = kind-star _ c.byte-c.ensures c.if-c-eq42.true

pub returns-then-starts_at : goal.returns-then-starts_at
returns-then-starts_at c = kind-starts _ c.byte-c.ensures c.if-c-eq47.false c.if-c-eq42.false c.starts_at.ensures c.if-starts_at.true

pub returns-then-goes_at : goal.returns-then-goes_at
returns-then-goes_at c = kind-goes _ c.byte-c.ensures c.if-c-eq47.false c.if-c-eq42.false c.starts_at.ensures c.if-starts_at.false c.goes_at.ensures c.if-goes_at.true

pub returns : goal.returns
returns c = kind_other _ c.byte-c.ensures c.if-c-eq47.false c.if-c-eq42.false c.starts_at.ensures c.if-starts_at.false c.goes_at.ensures c.if-goes_at.false
