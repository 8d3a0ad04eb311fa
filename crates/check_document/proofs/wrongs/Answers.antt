use Prim.Native.Nat.{◌-◌}
use mathlib.Core.Path.{◌≡◌}
use native.Mathlib.Omega.{arith}
use borrow.Author.Rules.{rules}
use Rattle.check_document.proofs.Counts.{root_none, node_more}
use Rattle.check_document.proofs.wrongs.Goals as goal

pub loop-v-init : goal.loop-v-init
loop-v-init c = (root_none _ c.wrong-count.ensures.1, search rules, search rules, search rules)

pub loop-v-preserved : goal.loop-v-preserved
loop-v-preserved c = (node_more _ c.loop-v.invariant.1 c.loop-v.invariant.0 c.wrong-count-in-loop-v.ensures.1, search rules, search rules, search rules)

pub returns : goal.returns
returns c = let all : c.loop-v.v ≡ c.args.used = omega arith in rw all at c.loop-v.invariant.0
