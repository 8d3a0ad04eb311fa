-- The branches of the code are those of the definition.
use Rattle.doc_read.proofs.Finding.{shown_removed, shown_found, shown_other}
use Rattle.doc_read.proofs.pass.shown.Goals as goal

pub returns-then-mark-ne0 : goal.returns-then-mark-ne0
returns-then-mark-ne0 c = shown_removed _ _ _ _ c.if-mark-ne0.true

pub returns-then-meets : goal.returns-then-meets
returns-then-meets c = shown_found _ _ _ _ c.if-mark-ne0.false c.meets.ensures c.if-meets.true

pub returns : goal.returns
returns c = shown_other _ _ _ _ c.if-mark-ne0.false c.meets.ensures c.if-meets.false
