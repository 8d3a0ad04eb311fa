use native.Mathlib.Omega.{arith}
use borrow.Author.Rules.{rules}
use Rattle.text_pattern_out.proofs.Lookup.{from_start, found_ended, from_more, from_end}
use Rattle.text_pattern_out.proofs.list.name_from.Goals as goal

pub loop-i-init : goal.loop-i-init
loop-i-init c = (search rules, from_start _)

pub overflow_add-from : goal.overflow_add-from
overflow_add-from c = omega (arith, found_ended c.args.list.now c.loop-i.invariant.1 (omega (arith, c.requires)) c.next_byte-from.ensures)

pub loop-i-preserved : goal.loop-i-preserved
loop-i-preserved c = (search rules, from_more _ c.loop-i.invariant.1 (omega (arith, c.requires)) c.next_byte-from.ensures)

pub returns : goal.returns
returns c = from_end _ c.loop-i.invariant.1 _ c.loop-i.invariant.0 c.loop-i-test.false
