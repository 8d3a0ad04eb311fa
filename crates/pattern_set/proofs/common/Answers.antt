-- The word is that of the definition, bit by bit.
use Rattle.pattern_set.proofs.Words.{common_word}
use Rattle.pattern_set.proofs.common.Goals as goal

pub returns : goal.returns
returns c = common_word _ _
