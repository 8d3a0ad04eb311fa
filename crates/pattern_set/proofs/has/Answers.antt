-- A step of the word by a shift; behind the word there is none.
use mathlib.Core.Path.{sym}
use borrow.Author.Rules.{rules}
use Rattle.pattern_set.proofs.Bits.{no_bit, shifted_bit}
use Rattle.pattern_set.proofs.has.Goals as goal

pub returns-then-i-lt-WORD_STEPS : goal.returns-then-i-lt-WORD_STEPS
returns-then-i-lt-WORD_STEPS c = shifted_bit _ _

pub returns : goal.returns
returns c = sym (no_bit 64 _ _ (search rules) c.if-i-lt-WORD_STEPS.false)
