-- The word is that of the definition, bit by bit.
use Rattle.pattern_set.proofs.Words.{next_word}
use Rattle.pattern_set.proofs.next.Goals as goal

pub returns : goal.returns
returns c = next_word _ _ _ _
