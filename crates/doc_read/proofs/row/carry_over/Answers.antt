use Prim.Native.Nat.{ℕ, ◌-◌}
use mathlib.Core.Path.{◌∙◌, ap}
use native.Mathlib.Nat.{le_trans, lt_of_lt_of_le}
use borrow.Author.Rules.{rules}
use mir.Val.{bool_byte}
use Rattle.selection.proofs.Filling.{row_start, row_more, row_long, row_within, row_end}
use Rattle.pattern_set.specs.Sets.{bit}
use Rattle.doc_read.proofs.row.carry_over.Goals as goal

pub loop-v-init : goal.loop-v-init
loop-v-init c = (search rules, row_start _ _)

pub bounds-carry-v : goal.bounds-carry-v
bounds-carry-v c = row_within _ _ _ c.loop-v.invariant.1 _ c.loop-v-test.true c.requires.1

pub loop-v-preserved : goal.loop-v-preserved
loop-v-preserved c = (search rules, row_more _ _ _ c.loop-v.invariant.1 (lt_of_lt_of_le c.loop-v-test.true c.requires.1) (ap bool_byte (c.has.ensures ∙ ap (λ (s : ℕ). bit s 63) c.set_at.ensures)))

pub shape_of-carry : goal.shape_of-carry
shape_of-carry c = row_long _ _ _ c.loop-v.invariant.1 (le_trans c.loop-v.invariant.0 c.requires.1)

pub returns : goal.returns
returns c = row_end _ _ _ c.loop-v.invariant.1 _ c.loop-v.invariant.0 c.loop-v-test.false
