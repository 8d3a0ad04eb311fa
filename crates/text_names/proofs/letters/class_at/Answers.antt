-- The class of the byte that stands there, or of none.
use Rattle.tables.proofs.Outside.{outside}
use Rattle.text_names.proofs.Rule.{class_outside}
use Rattle.text_names.proofs.letters.class_at.Goals as goal

pub returns : goal.returns
returns c = class_outside _ (outside c.args.s.now _ c.if-i-s.false)
