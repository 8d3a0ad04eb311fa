-- The branches of the code are those of the definition.
use Rattle.doc_delete.proofs.Branches.{struck-removed, struck-selected, struck_below, struck_other}
use Rattle.doc_delete.proofs.striking.struck.Goals as goal

pub returns-then-mark-ne0 : goal.returns-then-mark-ne0
returns-then-mark-ne0 c = search struck-removed

pub returns-then-own-eq1 : goal.returns-then-own-eq1
returns-then-own-eq1 c = search struck-selected

pub returns-then-above-eq1 : goal.returns-then-above-eq1
returns-then-above-eq1 c = search struck_below

pub returns : goal.returns
returns c = search struck_other
