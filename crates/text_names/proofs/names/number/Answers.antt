use native.Mathlib.Omega.{arith}
use borrow.Author.Rules.{rules}
use Rattle.text_names.proofs.Numbering.{number_start, number_open, number_here, number-on, number_end, next-within}
use Rattle.text_names.proofs.names.number.Goals as goal

pub loop-from-init : goal.loop-from-init
loop-from-init c = (search rules, search rules, number_start _ _)

pub returns-then-n-to : goal.returns-then-n-to
returns-then-n-to c = number_open _ _ _ _ c.loop-from.invariant.2 c.loop-from.invariant.0 c.next_byte-to.ensures c.if-n-to.true

pub slice_bounds-same_bytes-count : goal.slice_bounds-same_bytes-count
slice_bounds-same_bytes-count c = (next-within _ _ c.loop-from.invariant.0 c.next_byte-to.ensures).0

pub slice_bounds-same_bytes-start : goal.slice_bounds-same_bytes-start
slice_bounds-same_bytes-start c = (next-within _ _ c.loop-from.invariant.0 c.next_byte-to.ensures).0

pub slice_bounds-same_bytes-end : goal.slice_bounds-same_bytes-end
slice_bounds-same_bytes-end c = (next-within _ _ c.loop-from.invariant.0 c.next_byte-to.ensures).1

pub returns-then-same_bytes : goal.returns-then-same_bytes
returns-then-same_bytes c = number_here _ _ _ _ c.loop-from.invariant.2 c.loop-from.invariant.0 c.next_byte-to.ensures c.if-n-to.false c.same_bytes.ensures c.if-same_bytes.true

pub loop-from-smaller : goal.loop-from-smaller
loop-from-smaller c = omega (arith, next-within _ _ c.loop-from.invariant.0 c.next_byte-to.ensures, c.if-n-to.false)

pub loop-from-preserved : goal.loop-from-preserved
loop-from-preserved c = (omega (arith, c.if-n-to.false), omega (arith, next-within _ _ c.loop-from.invariant.0 c.next_byte-to.ensures, c.loop-from.invariant.1), number-on _ _ _ _ c.loop-from.invariant.2 c.loop-from.invariant.0 c.next_byte-to.ensures c.if-n-to.false c.same_bytes.ensures c.if-same_bytes.false)

pub returns : goal.returns
returns c = number_end _ _ _ _ c.loop-from.invariant.2 c.loop-from-test.false
