-- The first n marks are filled with 0.
use mathlib.Core.Path.{refl}
use Rattle.selection.proofs.Filling.{front_filled}
use Rattle.doc_copy.proofs.present.Goals as goal

pub returns : goal.returns
returns c = front_filled 0 _ _ c.requires (c.fill.ensures.after (λ y e. e))
