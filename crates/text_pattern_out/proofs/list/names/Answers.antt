use native.Mathlib.Omega.{arith}
use borrow.Author.Rules.{rules}
use Rattle.text_parts.proofs.Finding.{next-least}
use Rattle.text_names.specs.Names.{feed}
use Rattle.text_pattern_out.proofs.Lookup.{count_start, count_more, count_none, count_end}
use Rattle.text_pattern_out.proofs.list.names.Goals as goal

pub loop-from-init : goal.loop-from-init
loop-from-init c = (search rules, search rules, search count_start)

pub returns-then-n-to : goal.returns-then-n-to
returns-then-n-to c = count_none _ _ _ c.loop-from.invariant.2 c.loop-from.invariant.0 c.next_byte-to.ensures c.if-n-to.true

pub loop-from-smaller : goal.loop-from-smaller
loop-from-smaller c = omega (arith, c.next_byte-to.ensures, next-least feed c.args.list.now c.loop-from.from)

pub loop-from-preserved : goal.loop-from-preserved
loop-from-preserved c = (search rules, omega (arith, c.next_byte-to.ensures, next-least feed c.args.list.now c.loop-from.from), count_more _ _ _ c.loop-from.invariant.2 c.loop-from.invariant.0 c.next_byte-to.ensures c.if-n-to.false)

pub returns : goal.returns
returns c = count_end _ _ _ c.loop-from.invariant.2 c.loop-from-test.false
