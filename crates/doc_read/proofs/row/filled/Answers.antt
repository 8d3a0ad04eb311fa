use Prim.Native.Nat.{◌-◌}
use mathlib.Core.Path.{refl}
use native.Mathlib.Omega.{arith}
use borrow.Author.Rules.{rules}
use Rattle.doc_read.proofs.Words.{carried_first, carried-next, clear_readable, clear_shown, clear_row, carrying, shown_next, shown_last, wanted_long}
use Rattle.doc_read.proofs.row.filled.Goals as goal

pub loop-from-init : goal.loop-from-init
loop-from-init c = (c.requires.some, refl, refl, carried_first _ _ _ c.requires.within, clear_shown _ _ _ _ _ _ c.cleared.ensures)

pub word_read-requires : goal.word_read-requires
word_read-requires c = carrying _ _ _ _ _ _ _ c.loop-from.invariant.4 (clear_readable _ _ c.cleared.ensures c.requires) c.loop-from.invariant.3 c.loop-from.invariant.2 c.loop-from.invariant.1

pub overflow_add-from : goal.overflow_add-from
overflow_add-from c = omega (arith, c.loop-from.invariant.0, c.requires.few)

pub shape_of-row-then-n-from : goal.shape_of-row-then-n-from
shape_of-row-then-n-from c = wanted_long _ _ _ _ _ _ (clear_row _ _ _ _ _ _ c.cleared.ensures (shown_last _ _ _ _ _ _ _ c.loop-from.invariant.4 c.word_read.ensures c.if-n-from.true)) c.requires.long

pub returns-then-n-from : goal.returns-then-n-from
returns-then-n-from c = clear_row _ _ _ _ _ _ c.cleared.ensures (shown_last _ _ _ _ _ _ _ c.loop-from.invariant.4 c.word_read.ensures c.if-n-from.true)

pub loop-from-preserved : goal.loop-from-preserved
loop-from-preserved c = (search rules, search rules, search rules, carried-next _ _ _ _ _ c.word_read.ensures.held c.carry_over.ensures, shown_next _ _ _ _ _ _ _ c.loop-from.invariant.4 c.word_read.ensures)
