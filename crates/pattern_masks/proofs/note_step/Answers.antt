-- A wildcard is put nowhere, a name into one slot.
use Rattle.pattern_masks.proofs.Slots.{note_wildcard, note_name}
use Rattle.pattern_masks.proofs.note_step.Goals as goal

pub returns-then-label-eq0 : goal.returns-then-label-eq0
returns-then-label-eq0 c = note_wildcard _ _ _ c.if-label-eq0.true _

pub returns : goal.returns
returns c = note_name _ _ _ c.if-label-eq0.false c.byte_of.ensures c.note.ensures
