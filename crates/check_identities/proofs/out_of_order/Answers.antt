use Prim.Native.Nat.{◌-◌}
use mathlib.Core.Path.{◌≡◌}
use native.Mathlib.Omega.{arith}
use borrow.Author.Rules.{rules}
use Rattle.check_identities.proofs.Rising.{root_above, above_more}
use Rattle.check_identities.proofs.out_of_order.Goals as goal

pub loop-v-init : goal.loop-v-init
loop-v-init c = (root_above c.args.ids.now, search rules, search rules, search rules)

pub loop-v-preserved : goal.loop-v-preserved
loop-v-preserved c = (above_more c.args.ids.now c.loop-v.invariant.1 c.loop-v.invariant.0 c.one-count.ensures.1, search rules, search rules, search rules)

pub returns : goal.returns
returns c = let all : c.loop-v.v ≡ c.args.used = omega arith in rw all at c.loop-v.invariant.0
