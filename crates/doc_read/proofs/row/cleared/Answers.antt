-- The bytes of the used nodes are filled with 0.
use Rattle.selection.proofs.Filling.{front_filled}
use Rattle.doc_read.proofs.row.cleared.Goals as goal

pub returns : goal.returns
returns c = front_filled 0 _ _ c.requires (c.fill.ensures.after (λ y e. e))
