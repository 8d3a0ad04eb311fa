-- A mark that stays, and one that becomes another.
use borrow.Author.Rules.{rules}
use Rattle.doc_mend.proofs.Branches.{put_none, put_there}
use Rattle.doc_mend.proofs.marks.put.Goals as goal

pub returns-then-old-new : goal.returns-then-old-new
returns-then-old-new c = search put_none

pub listed-requires : goal.listed-requires
listed-requires c = (search rules, c.requires.room c.if-old-new.false)

pub returns : goal.returns
returns c = search put_there
