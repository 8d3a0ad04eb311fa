-- A step of the word is put in, another is not.
use Rattle.pattern_set.proofs.Words.{with_none, with_word}
use Rattle.pattern_set.proofs.with.Goals as goal

pub returns-then-i-ge-WORD_STEPS : goal.returns-then-i-ge-WORD_STEPS
returns-then-i-ge-WORD_STEPS c = with_none _ _ c.if-i-ge-WORD_STEPS.true

pub returns : goal.returns
returns c = with_word _ _ c.if-i-ge-WORD_STEPS.false
