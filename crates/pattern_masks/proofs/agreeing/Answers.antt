-- What both slots have in common.
use borrow.Author.Rules.{rules}
use Rattle.pattern_masks.proofs.Masks.{slots-shared}
use Rattle.pattern_masks.proofs.agreeing.Goals as goal

pub returns : goal.returns
returns c = (search rules, slots-shared _ _ _ c.common.ensures c.slot.ensures c.slot-2.ensures)
