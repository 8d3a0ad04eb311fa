-- No fault of the two.
use borrow.Author.Rules.{rules}
use Rattle.check_document.proofs.Marks.{wrong_mark_none}
use Rattle.check_document.proofs.wrong_mark.Goals as goal

pub returns : goal.returns
returns c = (search rules, wrong_mark_none c.one.ensures.1 c.one-2.ensures.1)
