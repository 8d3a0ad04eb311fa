-- Three stores, two of them of marks.
use borrow.Author.Rules.{rules}
use lib.ListN.{length-set}
use Rattle.doc_mend.proofs.Branches.{words_told}
use Rattle.doc_mend.proofs.marks.listed.Goals as goal

pub bounds-list-at-2 : goal.bounds-list-at-2
bounds-list-at-2 c = simp length-set (search rules)

pub returns : goal.returns
returns c = search (words_told, rules)
