-- An entry of the table is the class of its byte.
use borrow.Author.Rules.{rules}
use Rattle.text_names.proofs.Table.{classes}
use Rattle.text_names.proofs.Rule.{class_at}
use Rattle.text_names.proofs.classes.class.Goals as goal

pub returns : goal.returns
unfolding classes
returns c = rw c.from.ensures (class_at _ (search rules))
