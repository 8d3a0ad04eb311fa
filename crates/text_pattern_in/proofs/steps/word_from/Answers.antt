-- A second slash, or none.
use Rattle.text_pattern_in.proofs.Branches.{word_second, word_first}
use Rattle.text_pattern_in.proofs.steps.word_from.Goals as goal

pub returns-then-byte-eq47 : goal.returns-then-byte-eq47
returns-then-byte-eq47 c = word_second _ _ c.byte.ensures c.if-byte-eq47.true

pub returns : goal.returns
returns c = word_first _ _ c.byte.ensures c.if-byte-eq47.false
