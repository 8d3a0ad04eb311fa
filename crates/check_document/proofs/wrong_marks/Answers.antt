use Prim.Native.Nat.{◌-◌}
use mathlib.Core.Path.{◌≡◌}
use native.Mathlib.Omega.{arith}
use borrow.Author.Rules.{rules}
use Rattle.tables.proofs.Soundness.{node_falls}
use Rattle.check_document.proofs.Marks.{root-mark, mark_more}
use Rattle.check_document.proofs.wrong_marks.Goals as goal

pub loop-node-init : goal.loop-node-init
loop-node-init c = (root-mark _ _ c.one-count.ensures.1, search rules, search rules, search rules)

pub overflow_cast-t : goal.overflow_cast-t
overflow_cast-t c = record { fits = omega (arith, node_falls _ _ _ c.requires.4 _ c.loop-node.invariant.1 c.loop-node-test.true) }

pub bounds-m-t : goal.bounds-m-t
bounds-m-t c = omega (arith, node_falls _ _ _ c.requires.4 _ c.loop-node.invariant.1 c.loop-node-test.true)

pub loop-node-preserved : goal.loop-node-preserved
loop-node-preserved c = (mark_more _ _ c.loop-node.invariant.1 c.loop-node.invariant.0 c.wrong_mark-count.ensures.1, search rules, search rules, search rules)

pub returns : goal.returns
returns c = let all : c.loop-node.node ≡ c.args.used = omega arith in rw all at c.loop-node.invariant.0
