use Prim.Native.Nat.{◌-◌}
use mathlib.Core.Bool.{false}
use borrow.Author.Rules.{rules}
use Rattle.selection.specs.Ways.{stays}
use Rattle.pattern_masks.proofs.Passing.{word_start, word_more, word_end, stays_below}
use Rattle.pattern_masks.proofs.staying.Goals as goal

pub loop-i-init : goal.loop-i-init
loop-i-init c = (search rules, word_start _ _)

pub loop-i-preserved : goal.loop-i-preserved
loop-i-preserved c = (search rules, word_more _ _ _ c.loop-i.invariant.1 c.stays.ensures c.put-s.ensures)

pub returns : goal.returns
returns c = word_end _ _ _ c.loop-i.invariant.1 _ c.loop-i.invariant.0 c.loop-i-test.false c.held-m.ensures (stays_below c.args.p.now)
