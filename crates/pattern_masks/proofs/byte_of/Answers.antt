-- The branches of the code are those of the definition.
use Rattle.pattern_masks.proofs.Masks.{high_byte, low_byte}
use Rattle.pattern_masks.proofs.byte_of.Goals as goal

pub returns-then-high : goal.returns-then-high
returns-then-high c = high_byte _ c.if-high.true

pub returns : goal.returns
returns c = low_byte _ c.if-high.false
