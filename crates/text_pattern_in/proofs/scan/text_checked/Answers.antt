use mathlib.Core.Path.{refl}
use borrow.Author.Rules.{rules}
use Rattle.text_pattern_in.proofs.Scanned.{scan_start, scan_on, scan_off, scan_end, scan_short}
use Rattle.text_pattern_in.proofs.scan.text_checked.Goals as goal

pub loop-i-init : goal.loop-i-init
loop-i-init c = (search rules, refl, scan_start _)

pub returns-then-q-gt4 : goal.returns-then-q-gt4
returns-then-q-gt4 c = scan_off _ _ _ c.loop-i.invariant.1 c.loop-i.invariant.2 c.loop-i-test.true c.kind_at.ensures c.next-q.ensures c.if-q-gt4.true c.refused.ensures

pub loop-i-preserved : goal.loop-i-preserved
loop-i-preserved c = let more = scan_on _ _ _ c.loop-i.invariant.1 c.loop-i.invariant.2 c.loop-i-test.true c.kind_at.ensures c.next-q.ensures c.if-q-gt4.false in (search rules, more.0, more.1)

pub returns-then-ends : goal.returns-then-ends
returns-then-ends c = scan_end _ _ _ c.loop-i.invariant.1 c.loop-i.invariant.2 c.loop-i-test.false c.ends.ensures c.if-ends.true

pub returns : goal.returns
returns c = scan_short _ _ _ c.loop-i.invariant.1 c.loop-i.invariant.2 c.loop-i-test.false c.ends.ensures c.loop-i.invariant.0 c.if-ends.false c.refused-2.ensures
