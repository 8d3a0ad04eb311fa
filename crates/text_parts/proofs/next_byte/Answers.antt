use Rattle.text_parts.proofs.Finding.{next_start, next_found, next-on, next_none}
use Rattle.text_parts.proofs.next_byte.Goals as goal

pub loop-k-init : goal.loop-k-init
loop-k-init c = next_start _ _ _

pub returns-then-byte-c : goal.returns-then-byte-c
returns-then-byte-c c = next_found _ _ _ _ c.loop-k.invariant c.loop-k-test.true c.byte.ensures c.if-byte-c.true

pub loop-k-preserved : goal.loop-k-preserved
loop-k-preserved c = next-on _ _ _ _ c.loop-k.invariant c.loop-k-test.true c.byte.ensures c.if-byte-c.false

pub returns : goal.returns
returns c = next_none _ _ _ _ c.loop-k.invariant c.loop-k-test.false
