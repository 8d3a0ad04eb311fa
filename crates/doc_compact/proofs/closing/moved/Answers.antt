-- The branches of the code are those of the definition.
use borrow.Author.Rules.{rules}
use lib.ListN.{length-set}
use Rattle.doc_compact.proofs.Moves.{moved_none, moved_there}
use Rattle.doc_compact.proofs.closing.moved.Goals as goal

pub returns-then-marks-v-ne0 : goal.returns-then-marks-v-ne0
returns-then-marks-v-ne0 c = search moved_none

pub bounds-rows-m-2 : goal.bounds-rows-m-2
bounds-rows-m-2 c = simp length-set (search rules)

pub returns : goal.returns
returns c = search moved_there
