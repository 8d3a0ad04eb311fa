-- Bytes 0, and a 1 for the last step.
use borrow.Author.Rules.{rules}
use Rattle.doc_read.proofs.Branches.{wants_none, wants_many, wants-last}
use Rattle.doc_read.proofs.wanted.last_wanted.Goals as goal

pub returns-then-n-eq0 : goal.returns-then-n-eq0
returns-then-n-eq0 c = wants_none _ c.if-n-eq0.true _

pub returns-then-n-gt-STEP_LIMIT : goal.returns-then-n-gt-STEP_LIMIT
returns-then-n-gt-STEP_LIMIT c = wants_many _ c.if-n-gt-STEP_LIMIT.true _

pub returns : goal.returns
returns c = wants-last _ _ (search rules) c.if-n-eq0.false
