use mathlib.Core.Path.{refl}
use native.Mathlib.Omega.{arith}
use lib.ListN.{length-set}
use Rattle.verdict_entering.proofs.States.{handed_none, handed_more, handed_all}
use Rattle.verdict_entering.proofs.rows.hand_over.Goals as goal

pub loop-v-init : goal.loop-v-init
loop-v-init c = (omega arith, refl, refl, handed_none _ _)

pub loop-v-preserved : goal.loop-v-preserved
loop-v-preserved c = (omega arith, simp length-set c.loop-v.invariant.1, simp length-set c.loop-v.invariant.2, handed_more _ _ c.loop-v.invariant.3 (omega arith) (omega arith))

pub returns : goal.returns
returns c = handed_all _ _ c.loop-v.invariant.3 _ c.loop-v.invariant.0 (omega arith)
