-- One slot is written, or none.
use Rattle.pattern_masks.proofs.Slots.{note_out, note_in}
use Rattle.pattern_masks.proofs.note.Goals as goal

pub returns-then-table-k : goal.returns-then-table-k
returns-then-table-k c = note_out _ _ _ c.if-table-k.true

pub returns : goal.returns
returns c = note_in _ _ _ c.if-table-k.false c.with.ensures
