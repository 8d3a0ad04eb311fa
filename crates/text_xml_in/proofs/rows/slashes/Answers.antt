use native.Mathlib.Omega.{arith}
use Rattle.text_xml_in.proofs.Slashes.{counted_start, counted-fits, counted_next, counted_end}
use Rattle.text_xml_in.proofs.rows.slashes.Goals as goal

pub loop-i-init : goal.loop-i-init
loop-i-init c = counted_start _

pub overflow_add-k : goal.overflow_add-k
overflow_add-k c = omega (arith, counted-fits c.loop-i.invariant c.loop-i-test.true c.byte.ensures c.from-k.ensures)

pub loop-i-preserved : goal.loop-i-preserved
loop-i-preserved c = counted_next c.loop-i.invariant c.loop-i-test.true c.byte.ensures c.from-k.ensures

pub returns : goal.returns
returns c = counted_end c.loop-i.invariant c.loop-i-test.false
