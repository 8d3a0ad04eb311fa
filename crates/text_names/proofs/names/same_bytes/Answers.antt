use borrow.Author.Rules.{rules}
use Rattle.text_names.proofs.Same.{same_apart, same-on, same_off, same_end}
use Rattle.text_names.proofs.names.same_bytes.Goals as goal

pub returns-then-n-b : goal.returns-then-n-b
returns-then-n-b c = same_apart _ _ c.if-n-b.true

pub returns-then-byte : goal.returns-then-byte
returns-then-byte c = same_off _ _ c.if-n-b.false _ c.loop-i-test.true c.loop-i.invariant.1 c.byte.ensures c.byte-in-loop-i.ensures c.if-byte.true

pub loop-i-preserved : goal.loop-i-preserved
loop-i-preserved c = (search rules, same-on _ _ c.if-n-b.false _ c.loop-i-test.true c.loop-i.invariant.1 c.byte.ensures c.byte-in-loop-i.ensures c.if-byte.false)

pub returns : goal.returns
returns c = same_end _ _ c.if-n-b.false _ c.loop-i.invariant.1 c.loop-i-test.false
