use Prim.Native.Nat.{◌-◌}
use mathlib.Core.Path.{◌≡◌}
use native.Mathlib.Omega.{arith}
use borrow.Author.Rules.{rules}
use Rattle.check_document.proofs.Counts.{zero_start}
use Rattle.check_document.proofs.Marks.{greater_more}
use Rattle.check_document.proofs.greatest.Goals as goal

pub loop-v-init : goal.loop-v-init
loop-v-init c = (zero_start _, search rules)

pub loop-v-preserved : goal.loop-v-preserved
loop-v-preserved c = (greater_more c.args.m.now c.loop-v.invariant.0 c.greater-most.ensures, search rules)

pub returns : goal.returns
returns c = let all : c.loop-v.v ≡ c.args.used = omega arith in rw all at c.loop-v.invariant.0
