use Prim.Native.Nat.{◌+◌, ◌-◌}
use mathlib.Core.Path.{◌≡◌, refl, ◌∙◌}
use native.Mathlib.Omega.{arith}
use Rattle.verdict_entering.proofs.Climbing.{climbed_none, climbed_all}
use Rattle.verdict_entering.proofs.rows.climb.Goals as goal

pub loop-v-init : goal.loop-v-init
loop-v-init c = (omega arith, refl, climbed_none _ _ c.requires.fitting _ c.requires.k_bound _ c.requires.reached _ c.requires.clear)

pub climb_node-requires : goal.climb_node-requires
climb_node-requires c = let same : c.loop-v.v - 1 + 1 ≡ c.loop-v.v = omega arith in record { fitting = c.requires.fitting; k_bound = c.requires.k_bound; reached = c.requires.reached; climbed = rw same c.loop-v.invariant.2; v_nonzero = (omega arith, omega arith) }

pub loop-v-preserved : goal.loop-v-preserved
loop-v-preserved c = (omega arith, c.climb_node.auto.own ∙ c.loop-v.invariant.1, c.climb_node.ensures)

pub shape_of-own : goal.shape_of-own
shape_of-own c = c.loop-v.invariant.1

pub returns : goal.returns
returns c = climbed_all _ _ c.requires.fitting _ c.requires.k_bound _ c.requires.reached _ _ (omega arith) c.loop-v.invariant.2
