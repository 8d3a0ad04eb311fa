-- Outside the table there is 0.
use Rattle.tables.proofs.Outside.{outside}
use Rattle.pattern_masks.proofs.slot.Goals as goal

pub returns : goal.returns
returns c = search outside
